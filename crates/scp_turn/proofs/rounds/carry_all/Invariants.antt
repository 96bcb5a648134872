use Rattle.std.proofs.Common.{◌+◌}
use Rattle.scp_turn.specs.Heard.{InOrder, Noted}
use Rattle.scp_turn.specs.Rounds.{Carries}
use Rattle.scp_turn.specs.inside.Carrying.{Acts}
use Rattle.scp_turn.specs.Watch.{notes}
use Rattle.scp_turn.proofs.rounds.carry_all.Given as goal

-- what went to the nodes so far
abbrev pub invariant-loop-to : goal.invariant-loop-to
invariant-loop-to g l = Acts (Noted (notes g.W.Watch.notes_before g.W.Watch.notes_after) l.fn.watch l.watch) l.fn.nodes.items l.nodes.items (InOrder (Carries l.driven (l.from + 1)) l.to) l.sent
