use Rattle.scp_workers.specs.inside.Working.{SameEnds}
use Rattle.scp_workers.proofs.worker.Worker.work.Given as goal

abbrev pub invariant-loop : goal.invariant-loop
invariant-loop g l = (goal.iterator-loop g).can_next l.iterator' × (goal.iterator-loop g).is_finite l.iterator' × SameEnds l.fn.self l.self
