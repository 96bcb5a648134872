use Rattle.std.proofs.Common.{List, ℕ, ◌∙◌, subst}
use Rattle.std.specs.Prelude.{IfOk}
use Rattle.scp_script_check.specs.Lines.{IsSaid}
use Rattle.scp_sim.proofs.first.first_script.Goals as goal

pub returns-clause-said : goal.returns-clause-said
returns-clause-said c =
    subst (λ (t : List ℕ). IfOk c.read_first.result (λ script. IsSaid t script.commands.items script.lines.items)) (c.as_str.ensures.value ∙ c.in_ok-text.ensures) c.read_first.ensures.said
