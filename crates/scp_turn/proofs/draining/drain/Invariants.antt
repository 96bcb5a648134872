use Rattle.std.proofs.Common.{◌≡◌}
use Rattle.scp_turn.specs.Watch.{notes}
use Rattle.scp_turn.specs.Episode.{drains_of}
use Rattle.scp_turn.specs.inside.Draining.{Drained, GoesDraws, RestStay}
use Rattle.scp_turn.proofs.Draws.{done}
use Rattle.scp_turn.proofs.draining.drain.Given as goal

-- what was leaving over the links so far went out
abbrev pub invariant-loop-link : goal.invariant-loop-link
invariant-loop-link g l = record {
  drained : GoesDraws g.A.Driver.says (notes g.W.Watch.notes_before g.W.Watch.notes_after) done l.fn.watch l.fn.node l.node (λ heard. Drained (drains_of l.fn.node l.link) l.fn.sent.items l.sent.items heard) l.watch;
  rest : RestStay l.link l.fn.node l.node;
  runs : l.node.failed ≡ l.fn.node.failed;
}
