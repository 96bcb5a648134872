use Rattle.std.proofs.Common.{◌≡◌}
use Rattle.scp_threaded_script.proofs.outboxes.leave.Given as goal

abbrev pub invariant-loop : goal.invariant-loop
invariant-loop g l = (l.marker.desk ≡ l.initial.marker.desk)
