use Rattle.std.proofs.Common.{◌≡◌, ◌+◌, take}
use Rattle.std.specs.List.{sum_by}
use Rattle.scp_xdr.specs.Tree.{in_a_row}
use Rattle.scp_quorum.proofs.Whole.{set_len}
use Rattle.scp_quorum.proofs.quorum_set.QuorumSet.+spend_all.Given as goal

abbrev pub invariant-loop-inner : goal.invariant-loop-inner
invariant-loop-inner l =
    record {
      so_far : l.initial.left ≡ l.left + sum_by set_len (take l.inner-index l.inner-items);
      all : in_a_row l.inner-items ≡ l.self.inner;
    }
