use Rattle.std.proofs.Common.{◌-◌, take}
use Rattle.std.specs.List.{All}
use Rattle.scp_quorum.proofs.Depth.{IsWithin}
use Rattle.scp_quorum.proofs.quorum_set.+are_within.Given as goal

abbrev pub decreases-are_within : goal.decreases-are_within
decreases-are_within l = l.most

abbrev pub invariant-loop-set : goal.invariant-loop-set
invariant-loop-set l =
    record {
      so_far : All (IsWithin (l.most - 1)) (take l.set-index l.sets);
    }
