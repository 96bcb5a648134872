use Rattle.scp_workers.specs.Handing.{outgoing_of}
use Rattle.scp_workers.proofs.Waiting.{pends_one}
use Rattle.scp_workers.proofs.pend.PendingStageInboundAnyReadyAny.take.Goals as goal

pub returns-in-Ok-clause-runs : goal.returns-in-Ok-clause-runs
returns-in-Ok-clause-runs c = λ first took gave out h. (
  pends_one c.who_it_is_stays.ensures.config c.args.item c.args.self.now c.take.new.self c.in-Ok.answer (outgoing_of c.answered.result) c.in-Ok.ensures.passes c.in-Ok.ensures.rules c.in-Ok.ensures.reply c.answered.ensures.made first took gave out h,
  tt,
)
