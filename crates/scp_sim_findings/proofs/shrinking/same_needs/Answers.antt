use Rattle.std.proofs.Common.{ℕ}
use Rattle.std.specs.Global.{Vec}
use Rattle.scp_sim_findings.specs.Needs.{AreNeedsOf}
use Rattle.scp_sim_findings.proofs.Aiming.{of_some, needs_same}
use Rattle.scp_sim_findings.proofs.shrinking.same_needs.Goals as goal

pub returns-in-Some : goal.returns-in-Some
returns-in-Some c =
    needs_same c.args.aim.now c.args.script.now c.in-Some.needs.items c.as_slice.result.now c.as_slice-in-Some.result.now c.eq.result
    (of_some (λ (needs : Vec ℕ). AreNeedsOf c.args.aim.now.finding c.args.script.now needs.items) _ c.in-Some.needs c.in-Some.is c.in_ok-found.ensures)
    c.as_slice.ensures.value c.as_slice-in-Some.ensures.value c.eq.ensures
