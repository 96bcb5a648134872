use Rattle.std.proofs.Common.{◌≡◌, ◌⊎◌, length}
use Rattle.scp_turn.specs.Watch.{notes}
use Rattle.scp_turn.specs.Heard.{Noted, With}
use Rattle.scp_turn.specs.Rounds.{AreRounds, AllRun}
use Rattle.scp_turn.specs.Network.{Hear}
use Rattle.scp_turn.proofs.rounds.settle.Given as goal

-- the rounds so far, after which no node failed
abbrev pub invariant-loop : goal.invariant-loop
invariant-loop g l = record {
  heard : Hear l.fn.nodes.items l.nodes.items (With (Noted (notes g.W.Watch.notes_before g.W.Watch.notes_after) l.fn.watch l.watch) (AreRounds l.driven (length l.fn.nodes.items) l.counter));
  run : (l.counter ≡ 0) ⊎ AllRun l.nodes.items;
}
