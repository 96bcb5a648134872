use Rattle.std.proofs.Common.{◌≡◌, ◌-◌, ◌+◌, count_by, take}
use Rattle.scp_xdr.specs.Tree.{in_a_row}
use Rattle.scp_quorum.proofs.Rows.{passes}
use Rattle.scp_quorum.proofs.quorum_set.QuorumSet.+is_satisfied_by.Given as goal

abbrev pub invariant-loop-validator : goal.invariant-loop-validator
invariant-loop-validator g l =
    l.missing ≡ l.self.head.threshold - (0 + count_by (g.N.Nodes.members l.nodes) (take l.validator-index l.validator-items))

abbrev pub invariant-loop-inner : goal.invariant-loop-inner
invariant-loop-inner g l =
    record {
      so_far : l.missing
          ≡ l.self.head.threshold
          - (count_by (g.N.Nodes.members l.nodes) l.self.head.validators
          + count_by (passes (g.N.Nodes.members l.nodes)) (take l.inner-index l.inner-items));
      all : in_a_row l.inner-items ≡ l.self.inner;
    }
