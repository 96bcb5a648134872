use Rattle.std.proofs.Common.{◌≡◌}
use Rattle.std.specs.Prelude.{replicate}
use Rattle.scp_core.specs.declared.event.Event.TheVariants.{Drain}
use Rattle.scp_turn.specs.Watch.{notes}
use Rattle.scp_turn.specs.inside.Draining.{Drained, GoesDraws, OthersStay}
use Rattle.scp_turn.proofs.Draws.{done}
use Rattle.scp_turn.proofs.draining.draw_all.Given as goal

-- this many went out so far
abbrev pub invariant-loop : goal.invariant-loop
invariant-loop g l = record {
  drawn : GoesDraws g.A.Driver.says (notes g.W.Watch.notes_before g.W.Watch.notes_after) done l.fn.watch l.fn.node l.node (λ heard. Drained (replicate l.counter (Drain l.link)) l.fn.sent.items l.sent.items heard) l.watch;
  others : OthersStay l.link l.fn.node l.node;
  runs : l.node.failed ≡ l.fn.node.failed;
}
