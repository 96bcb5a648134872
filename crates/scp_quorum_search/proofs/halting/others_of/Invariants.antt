use Rattle.std.proofs.Common.{◌≡◌, take}
use Rattle.scp_quorum_search.specs.inside.Losses.{AreOthers}
use Rattle.scp_quorum_search.proofs.Sets.{IsSifting}
use Rattle.scp_quorum_search.proofs.halting.others_of.Given as goal

abbrev pub invariant-loop-node : goal.invariant-loop-node
invariant-loop-node l =
    record {
      sifting : IsSifting l.all (λ v. v ≡ l.at) l.others.items (take l.node-index l.all) l.node-index;
      others : AreOthers l.at l.others.items;
    }
