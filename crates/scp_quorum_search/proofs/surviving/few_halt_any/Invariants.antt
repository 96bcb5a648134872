use Rattle.std.proofs.Common.{◌≡◌, ◌+◌, ◌*◌, ◌^◌, ◌≤◌, length, take}
use Rattle.std.specs.List.{All}
use Rattle.scp_quorum_search.proofs.MostLost.{IsNeverHalted}
use Rattle.scp_quorum_search.proofs.surviving.few_halt_any.Given as goal

abbrev pub invariant-loop-at : goal.invariant-loop-at
invariant-loop-at l =
    record {
      never : All (IsNeverHalted l.quest l.count) (take l.at-index l.quest.all.now);
      few : l.tries.made ≤ l.initial.tries.made + l.at-index * 2 ^ (length l.quest.all.now + 1);
      limit : l.tries.limit ≡ l.initial.tries.limit;
    }
