use Rattle.scp_turn.specs.Watch.{notes}
use Rattle.scp_turn.specs.Rest.{AreMovingTurns}
use Rattle.scp_turn.proofs.Quiet.{RestsWatched}
use Rattle.scp_turn.proofs.resting.rest.Given as goal

-- the turns so far moved something
abbrev pub invariant-loop : goal.invariant-loop
invariant-loop g l = RestsWatched g.A.Driver.says (notes g.W.Watch.notes_before g.W.Watch.notes_after) (AreMovingTurns g.A.Driver.says l.counter) l.fn.watch l.fn.node l.node l.watch
