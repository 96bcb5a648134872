use Rattle.std.proofs.Common.{length}
use Rattle.scp_turn.specs.Heard.{InOrder, Noted}
use Rattle.scp_turn.specs.Rounds.{IsTurn}
use Rattle.scp_turn.specs.inside.Carrying.{Acts}
use Rattle.scp_turn.specs.Watch.{notes}
use Rattle.scp_turn.proofs.rounds.round.Given as goal

-- the turns of the nodes so far
abbrev pub invariant-loop-index : goal.invariant-loop-index
invariant-loop-index g l = Acts (Noted (notes g.W.Watch.notes_before g.W.Watch.notes_after) l.fn.watch l.watch) l.fn.nodes.items l.nodes.items (InOrder (IsTurn l.driven (length l.fn.nodes.items)) l.index) l.moved
