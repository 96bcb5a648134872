use Rattle.std.proofs.Common.{List, ℕ, ◌++◌, ◌∙◌, ap}
use Rattle.scp_sim_findings.specs.Told.{cut_text}
use Rattle.scp_sim_findings.proofs.running.first_lines.Goals as goal

pub returns : goal.returns
returns c = c.in_ok-write_cut.ensures ∙ ap (λ (t : List ℕ). t ++ cut_text c.args.run.now.is_cut c.args.plan.now.slots) c.in_ok-text.ensures
