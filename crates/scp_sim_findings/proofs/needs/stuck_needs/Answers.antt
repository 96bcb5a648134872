use Rattle.std.proofs.Common.{ap, ◌∙◌, string_bytes, String, Global}
use Rattle.scp_sim_findings.specs.Needs.{IsStandOf, needs_in}
use Rattle.scp_sim_findings.proofs.Aiming.{of_some}
use Rattle.scp_sim_findings.proofs.needs.stuck_needs.Goals as goal

-- the needs in the status that was found
pub returns-in_ok-needs-in-Some : goal.returns-in_ok-needs-in-Some
returns-in_ok-needs-in-Some c = (
  string_bytes c.in-Some.stand,
  of_some (λ (text : String Global). IsStandOf c.args.script.now (string_bytes text)) _ c.in-Some.stand c.in-Some.is c.in_ok-found.ensures,
  c.in_ok-needs-in-Some.ensures ∙ ap needs_in c.as_bytes.ensures.value,
)
