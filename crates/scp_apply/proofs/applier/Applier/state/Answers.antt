use Rattle.scp_apply.proofs.Values.{running_of}
use Rattle.scp_apply.proofs.applier.Applier.state.Goals as goal

pub returns-clause-running : goal.returns-clause-running
returns-clause-running g c = rw (← c.self.view_is) (λ runs. running_of c.self.inside.failed c.self.inside.slots runs (c.self.invariant.sound runs))
