use Rattle.std.proofs.Common.{◌≡◌, true, take}
use Rattle.std.specs.List.{All}
use Rattle.scp_quorum.specs.NodeSet.{is_in}
use Rattle.scp_quorum.specs.Quorum.{IsWithin}
use Rattle.scp_quorum_search.proofs.search.inside.Given as goal

abbrev pub invariant-loop-node : goal.invariant-loop-node
invariant-loop-node l =
    record {
      chosen : IsWithin (is_in l.chosen) (is_in l.nodes);
      left : All (λ v. is_in l.nodes v ≡ true) (take l.node-index l.left);
    }
