use Rattle.std.proofs.Common.{◌≡◌, ◌<◌, ◌≤◌, true}
use Rattle.std.specs.BTreeSet.{btree_set_len}
use Rattle.scp_quorum.specs.NodeSet.{is_in}
use Rattle.scp_quorum.specs.Quorum.{set_of}
use Rattle.scp_quorum.proofs.Pass.{IsPass}
use Rattle.scp_quorum.proofs.quorum.passes.remove_unsatisfied.Given as goal

abbrev pub invariant-loop-node : goal.invariant-loop-node
invariant-loop-node l =
    record {
      pass : IsPass (set_of l.sets) (is_in l.initial.remaining) (is_in l.remaining) l.removed l.node-iterator;
      no_more : btree_set_len l.remaining ≤ btree_set_len l.initial.remaining;
      fewer : l.removed ≡ true → btree_set_len l.remaining < btree_set_len l.initial.remaining;
    }
