use Rattle.std.proofs.Common.{◌≡◌, take}
use Rattle.std.specs.List.{All}
use Rattle.scp_xdr.specs.Tree.{in_a_row}
use Rattle.scp_quorum.specs.Sane.{IsInRange}
use Rattle.scp_quorum.proofs.quorum_set.QuorumSet.+is_in_range.Given as goal

abbrev pub invariant-loop-inner : goal.invariant-loop-inner
invariant-loop-inner l =
    record {
      so_far : All IsInRange (take l.inner-index l.inner-items);
      all : in_a_row l.inner-items ≡ l.self.inner;
    }
