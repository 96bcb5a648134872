use Rattle.std.proofs.Common.{◌≡◌, ◌++◌}
use Rattle.scp_stand_node.specs.scp_turn.specs.Watch.{notes}
use Rattle.scp_live.specs.Living.{IsLive}
use Rattle.scp_live_process.specs.inside.Replaying.{AddsCloses}
use Rattle.scp_live_process.proofs.Going.{Seen}
use Rattle.scp_live_process.proofs.starting.close_all.Given as goal

-- the links so far are closed
abbrev pub invariant-loop-link : goal.invariant-loop-link
invariant-loop-link g l = record {
  closed : Seen (notes g.V.Watch.notes_before g.V.Watch.notes_after) l.fn.watch l.watch l.fn.live.node l.live.node (λ heard. AddsCloses l.yielded l.fn.live heard l.live l.fn.batch l.batch);
  live : IsLive l.live.node;
  names : l.live.names ≡ l.fn.live.names;
  all : l.fn.links.items ≡ l.yielded ++ l.link-iterator.rest.items;
}
