use Rattle.scp_workers.specs.Carrying.{HaveNoStop, IsSameLink, IsSameTaker}
use Rattle.scp_workers.proofs.courier.Courier.run.Given as goal

abbrev pub invariant-loop : goal.invariant-loop
invariant-loop g l = (goal.iterator-loop g).can_next l.iterator' × (goal.iterator-loop g).is_finite l.iterator' × IsSameLink l.fn.self.link l.self.link × IsSameTaker l.fn.self.taker l.self.taker × HaveNoStop l.self.taker.gave
