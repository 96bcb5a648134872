use Rattle.std.proofs.Common.{◌≤◌, Option}
use Rattle.std.specs.List.{All}
use Rattle.std.specs.BTreeSet.{btree_set_len}
use Rattle.scp_xdr.specs.scp_types.specs.declared.names.NodeId.{NodeId}
use Rattle.scp_quorum.specs.NodeSet.{is_in}
use Rattle.scp_quorum.specs.QuorumTree.{QuorumTree}
use Rattle.scp_quorum.specs.Quorum.{IsWithin}
use Rattle.scp_quorum.specs.inside.Quorum.{KeepsQuorums}
use Rattle.scp_quorum.specs.inside.Groups.{HasOneSet}
use Rattle.scp_quorum.proofs.quorum.follow_counts.Given as goal

abbrev pub invariant-loop : goal.invariant-loop
invariant-loop l =
    record {
      within : IsWithin (is_in l.remaining) (is_in l.initial.remaining);
      kept : (sets : NodeId → Option QuorumTree) → All (HasOneSet sets) l.groups → KeepsQuorums sets (is_in l.initial.remaining) (is_in l.remaining);
      no_more : btree_set_len l.remaining ≤ btree_set_len l.initial.remaining;
    }
