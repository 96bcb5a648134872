use Rattle.std.proofs.Common.{◌≡◌, take}
use Rattle.std.specs.List.{All}
use Rattle.scp_quorum.specs.scp_xdr.specs.Tree.{in_a_row}
use Rattle.scp_quorum_search.specs.inside.Sides.{StandTogether}
use Rattle.scp_quorum_search.proofs.sides.+stand_together.Given as goal

abbrev pub decreases-stand_together : goal.decreases-stand_together
decreases-stand_together l = goal.size-stand_together l

abbrev pub invariant-loop-inner : goal.invariant-loop-inner
invariant-loop-inner l =
    record {
      row : in_a_row l.inner-items ≡ l.set.inner;
      so_far : All (StandTogether l.a l.b) (take l.inner-index l.inner-items);
    }
