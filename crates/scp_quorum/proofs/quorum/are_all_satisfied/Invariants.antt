use Rattle.std.proofs.Common.{◌≤◌, count_by, false}
use Rattle.scp_quorum.specs.NodeSet.{is_in}
use Rattle.scp_quorum.specs.Quorum.{set_of}
use Rattle.scp_quorum.proofs.Pass.{IsPass}
use Rattle.scp_quorum.proofs.quorum.are_all_satisfied.Given as goal

abbrev pub invariant-loop-set : goal.invariant-loop-set
invariant-loop-set l =
    record {
      enough : l.threshold ≤ count_by (is_in l.nodes) l.head;
      pass : IsPass (set_of l.sets) (is_in l.nodes) (is_in l.nodes) false l.set-iterator;
    }
