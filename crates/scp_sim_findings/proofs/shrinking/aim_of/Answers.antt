use Rattle.std.proofs.Common.{ℕ}
use Rattle.std.specs.Global.{Vec}
use Rattle.scp_sim_findings.specs.Needs.{AreNeedsOf}
use Rattle.scp_sim_findings.proofs.Aiming.{of_some}
use Rattle.scp_sim_findings.proofs.shrinking.aim_of.Goals as goal

pub returns-in-Some-clause-reaches : goal.returns-in-Some-clause-reaches
returns-in-Some-clause-reaches c = record {
  comes = c.in_ok-comes_to.ensures c.if-not-branch.false;
  needs = of_some (λ (needs : Vec ℕ). AreNeedsOf c.args.finding c.args.script.now needs.items) _ c.in-Some.needs c.in-Some.is c.in_ok-found.ensures;
}
