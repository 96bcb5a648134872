use Rattle.scp_core.proofs.Faults.{step_fault}
use Rattle.scp_core.proofs.laws.each_step_says_why_it_failed.Goals as goal

pub returns : goal.returns
returns g c = record {
  why = step_fault g.D.Driver.says;
}
