use Rattle.scp_turn.specs.Turn.{reader_events}
use Rattle.scp_turn.specs.Watch.{notes}
use Rattle.scp_turn.specs.inside.Acting.{Acts}
use Rattle.scp_turn.proofs.turns.read.Given as goal

-- what the readers of the links so far did
abbrev pub invariant-loop-link : goal.invariant-loop-link
invariant-loop-link g l = Acts g.A.Driver.says (notes g.W.Watch.notes_before g.W.Watch.notes_after) l.number l.fn.watch l.fn.node (reader_events l.link) l.moved l.node l.watch
