use Rattle.scp_vote.proofs.Seating.{IsMarkingGroups}
use Rattle.scp_vote.proofs.table.free_group.Given as goal

abbrev pub invariant-loop-seat : goal.invariant-loop-seat
invariant-loop-seat l = IsMarkingGroups l.seats l.used.items l.groups l.seat-index
