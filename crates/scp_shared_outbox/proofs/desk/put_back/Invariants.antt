use Rattle.std.proofs.Common.{◌≡◌}
use Rattle.crossbeam_queue.specs.Passes.{view, IsPassOf}
use Rattle.scp_shared_outbox.proofs.desk.put_back.Given as goal

abbrev pub invariant-loop : goal.invariant-loop
invariant-loop g l = IsPassOf l.place l.pass × (l.pass.id ≡ l.initial.pass.id) × (view l.pass ≡ view l.initial.pass) × (l.outbox ≡ l.initial.outbox)
