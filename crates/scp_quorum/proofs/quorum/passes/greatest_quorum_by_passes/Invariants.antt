use Rattle.std.proofs.Common.{Bool}
use Rattle.std.specs.BTreeSet.{btree_set_len}
use Rattle.scp_xdr.specs.scp_types.specs.declared.names.NodeId.{NodeId}
use Rattle.scp_quorum.specs.NodeSet.{is_in}
use Rattle.scp_quorum.specs.Quorum.{set_of, SatisfyThemselves, IsWithin}
use Rattle.scp_quorum.specs.inside.Quorum.{AllHaveSets}
use Rattle.scp_quorum.proofs.quorum.passes.greatest_quorum_by_passes.Given as goal

abbrev pub invariant-loop : goal.invariant-loop
invariant-loop l =
    record {
      have_sets : AllHaveSets (set_of l.sets) (is_in l.remaining);
      kept : (others : NodeId → Bool) → SatisfyThemselves (set_of l.sets) others → IsWithin others (is_in l.remaining);
    }

abbrev pub decreases-loop : goal.decreases-loop
decreases-loop l = btree_set_len l.remaining
