use Rattle.std.proofs.Common.{◌≡◌, ◌-◌, take}
use Rattle.std.specs.List.{All}
use Rattle.scp_xdr.specs.Tree.{in_a_row}
use Rattle.scp_quorum.proofs.Whole.{FitsAt}
use Rattle.scp_quorum.proofs.quorum_set.QuorumSet.+fits_at.Given as goal

abbrev pub invariant-loop-inner : goal.invariant-loop-inner
invariant-loop-inner l =
    record {
      so_far : All (FitsAt (l.levels - 1)) (take l.inner-index l.inner-items);
      all : in_a_row l.inner-items ≡ l.self.inner;
    }
