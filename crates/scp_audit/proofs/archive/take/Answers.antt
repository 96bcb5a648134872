use Rattle.scp_audit.proofs.Refusing.{not_failed}
use Rattle.scp_audit.proofs.archive.take.Goals as goal

pub returns-clause-cause : goal.returns-clause-cause
returns-clause-cause g c = not_failed c.next.result c.args.entries.now c.requires c.next.ensures.failed c.next.ensures.cause
