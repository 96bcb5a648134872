use Rattle.std.proofs.Common.{◌≡◌, true}
use Rattle.crossbeam_queue.specs.Passes.{view, IsPassOf}
use Rattle.scp_shared_outbox.proofs.desk.next.Given as goal

abbrev pub invariant-loop : goal.invariant-loop
invariant-loop g l = IsPassOf l.desk.place l.pass × ((view l.pass).takes ≡ true) × ((view l.pass).made ≡ (view l.initial.pass).made) × ((view l.pass).gave ≡ (view l.initial.pass).gave)
