use Rattle.scp_sim_findings.proofs.Telling.{apart_told}
use Rattle.scp_sim_findings.proofs.apart.plan_apart.Goals as goal

pub returns-in-Ok : goal.returns-in-Ok
returns-in-Ok c = apart_told c.args.plan.now c.in-Ok.script c.as_slice.result.now c.apart_in.result c.as_slice.ensures.value c.in-Ok.ensures.said c.apart_in.ensures
