use Rattle.std.proofs.Common.{◌≡◌, ◌++◌, ◌-◌, take}
use Rattle.std.specs.List.{flat_map, All}
use Rattle.scp_xdr.specs.Tree.{in_a_row}
use Rattle.scp_quorum.specs.QuorumKind.{set_spelling}
use Rattle.scp_quorum.proofs.Whole.{FitsAt}
use Rattle.scp_quorum.proofs.quorum_set.QuorumSet.+write_at.Given as goal

abbrev pub invariant-loop-inner : goal.invariant-loop-inner
invariant-loop-inner l =
    record {
      so_far : l.writer ≡ l.initial.writer ++ flat_map set_spelling (take l.inner-index l.inner-items);
      fit : All (FitsAt (l.levels - 1)) l.inner-items;
      all : in_a_row l.inner-items ≡ l.self.inner;
    }
