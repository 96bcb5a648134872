use Rattle.std.proofs.Common.{◌≡◌, ◌++◌, take}
use Rattle.std.specs.List.{flat_map}
use Rattle.scp_xdr.specs.Tree.{in_a_row}
use Rattle.scp_quorum.specs.Sane.{all_nodes}
use Rattle.scp_quorum.proofs.quorum_set.QuorumSet.+append_nodes.Given as goal

abbrev pub invariant-loop-inner : goal.invariant-loop-inner
invariant-loop-inner l =
    record {
      so_far : l.nodes.items ≡ l.initial.nodes.items ++ flat_map all_nodes (take l.inner-index l.inner-items);
      all : in_a_row l.inner-items ≡ l.self.inner;
    }
