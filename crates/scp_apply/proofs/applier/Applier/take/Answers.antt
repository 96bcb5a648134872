use Rattle.scp_apply.proofs.Values.{running_of}
use Rattle.scp_apply.proofs.applier.Applier.take.Goals as goal

pub returns-in-Ok-clause-running : goal.returns-in-Ok-clause-running
returns-in-Ok-clause-running g c = λ runs. running_of c.self.inside.failed c.serve.new.self runs c.in-Ok.ensures.sound
