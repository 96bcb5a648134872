use Rattle.scp_quorum.proofs.Marking.{IsUnmarking}
use Rattle.scp_quorum.proofs.quorum.places.unmark.Given as goal

abbrev pub invariant-loop-place : goal.invariant-loop-place
invariant-loop-place l = IsUnmarking l.seats l.verdicts l.initial.marks l.marks l.removed l.place
