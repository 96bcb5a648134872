use Rattle.std.proofs.Common.{◌≡◌, ◌+◌, ◌≤◌, ◌++◌, length, take}
use Rattle.std.specs.List.{flat_map}
use Rattle.scp_xdr.specs.Tree.{in_a_row}
use Rattle.scp_quorum.specs.Sane.{all_nodes}
use Rattle.scp_quorum.proofs.quorum_set.QuorumSet.+gather.Given as goal

abbrev pub invariant-loop-inner : goal.invariant-loop-inner
invariant-loop-inner l =
    record {
      count : l.count ≡ l.initial.count + length (flat_map all_nodes (take l.inner-index l.inner-items));
      room : l.count ≤ length l.nodes;
      front : take l.count l.nodes ≡ take l.initial.count l.initial.nodes ++ flat_map all_nodes (take l.inner-index l.inner-items);
      all : in_a_row l.inner-items ≡ l.self.inner;
    }
