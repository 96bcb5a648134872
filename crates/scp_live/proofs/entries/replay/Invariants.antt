use Rattle.std.proofs.Common.{take}
use Rattle.scp_turn.specs.Watch.{notes}
use Rattle.scp_turn.specs.Kv.{Watched}
use Rattle.scp_live.specs.Living.{IsLive}
use Rattle.scp_live.specs.Replays.{AreReplayed}
use Rattle.scp_live.proofs.Going.{Heard}
use Rattle.scp_live.proofs.entries.replay.Given as goal

-- the entries so far were played, and the watch was told of each step
abbrev pub invariant-loop-place : goal.invariant-loop-place
invariant-loop-place g l = record {
  replayed : Heard l.fn.live.node l.live.node (λ heard. AreReplayed (take l.place l.entries) l.fn.live heard l.live × Watched (notes g.W.Watch.notes_before g.W.Watch.notes_after) 1 l.fn.watch l.fn.live.node heard l.live.node l.watch);
  live : IsLive l.live.node;
}
