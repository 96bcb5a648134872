use Rattle.std.proofs.Common.{take}
use Rattle.std.specs.List.{All}
use Rattle.scp_quorum_search.specs.inside.Sides.{StandTogether}
use Rattle.scp_quorum_search.proofs.sides.stand_together_in_all.Given as goal

abbrev pub invariant-loop-member : goal.invariant-loop-member
invariant-loop-member l = All (λ m. StandTogether l.a l.b m.set) (take l.member-index l.members)
