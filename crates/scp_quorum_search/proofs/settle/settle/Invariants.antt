use Rattle.std.proofs.Common.{Bool}
use Rattle.std.specs.BTreeSet.{btree_set_len}
use Rattle.scp_quorum.specs.scp_types.specs.declared.names.NodeId.{NodeId}
use Rattle.scp_quorum.specs.NodeSet.{is_in}
use Rattle.scp_quorum.specs.Quorum.{IsWithin}
use Rattle.scp_quorum_search.specs.Beside.{SatisfyBeside}
use Rattle.scp_quorum_search.proofs.settle.settle.Given as goal

abbrev pub invariant-loop : goal.invariant-loop
invariant-loop l =
    record {
      within : IsWithin (is_in l.nodes) (is_in l.initial.nodes);
      kept : (us : NodeId → Bool) → SatisfyBeside (is_in l.liars) l.members us → IsWithin us (is_in l.initial.nodes) → IsWithin us (is_in l.nodes);
    }

abbrev pub decreases-loop : goal.decreases-loop
decreases-loop l = btree_set_len l.nodes
