use Rattle.std.specs.BTreeSet.{btree_set_len}
use Rattle.scp_quorum.specs.NodeSet.{is_in}
use Rattle.scp_quorum.specs.Quorum.{set_of}
use Rattle.scp_quorum.specs.inside.Quorum.{AllHaveSets, KeepsQuorums}
use Rattle.scp_quorum.proofs.quorum.settle.Given as goal

abbrev pub invariant-loop-alloc : goal.invariant-loop-alloc
invariant-loop-alloc l =
    record {
      have_sets : AllHaveSets (set_of l.sets) (is_in l.remaining);
      kept : KeepsQuorums (set_of l.sets) (is_in l.initial.remaining) (is_in l.remaining);
    }

abbrev pub decreases-loop-alloc : goal.decreases-loop-alloc
decreases-loop-alloc l = btree_set_len l.remaining
