use Rattle.std.proofs.Common.{◌≡◌}
use Rattle.scp_threaded_script.proofs.outboxes.stop.Given as goal

abbrev pub invariant-loop : goal.invariant-loop
invariant-loop g l = (goal.iterator-loop g).can_next l.iterator' × (goal.iterator-loop g).is_finite l.iterator' × (l.marker.desk ≡ l.initial.marker.desk)
