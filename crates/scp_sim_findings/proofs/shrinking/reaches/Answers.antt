use Rattle.scp_sim_findings.proofs.Aiming.{reached_if}
use Rattle.scp_sim_findings.proofs.shrinking.reaches.Goals as goal

pub returns-then-branch : goal.returns-then-branch
returns-then-branch c = reached_if c.args.aim.now c.args.script.now c.same_needs.result (c.in_ok-comes_to.ensures c.if-branch.true) c.same_needs.ensures
