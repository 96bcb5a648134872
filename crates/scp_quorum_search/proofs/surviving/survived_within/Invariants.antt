use Rattle.std.proofs.Common.{◌≡◌, ◌+◌, ◌*◌, ◌^◌, ◌≤◌, length}
use Rattle.scp_quorum_search.specs.Losses.{SurviveBelow}
use Rattle.scp_quorum_search.proofs.MostLost.{IsMost}
use Rattle.scp_quorum_search.proofs.surviving.survived_within.Given as goal

abbrev pub invariant-loop-count : goal.invariant-loop-count
invariant-loop-count l =
    record {
      below : SurviveBelow l.members l.count;
      most : IsMost l.count l.most;
      few : l.tries.made ≤ l.initial.tries.made + l.count * (length l.members * 2 ^ (length l.members + 1));
      limit : l.tries.limit ≡ l.initial.tries.limit;
    }
