use Rattle.std.proofs.Common.{List, ℕ, subst}
use Rattle.scp_script_hints.specs.Hints.{AreHints}
use Rattle.scp_notices.specs.scp_script_check.specs.Warnings.{AreWarnings}
use Rattle.scp_command.specs.Answers.{IsJust}
use Rattle.scp_command.proofs.looks.checked.Goals as goal

pub returns-in-Ok-clause-answer : goal.returns-in-Ok-clause-answer
returns-in-Ok-clause-answer c =
    let commands = c.in_ok-script.script.commands.items in
    let said = c.in_ok-script.ensures.said in
    let told = c.in-Ok.ensures.told in
    record {
      given = c.in_ok-given.given;
      is_given = c.in_ok-given.ensures.given;
      commands = commands;
      lines = said.0;
      said = said.1;
      warnings = told.0;
      warned = subst (λ (lines : List ℕ). AreWarnings commands lines told.0) said.2 told.2;
      hints = told.1;
      hinted = subst (λ (lines : List ℕ). AreHints commands lines told.1) said.2 told.3;
      just = subst (λ (text : List ℕ). IsJust text c.of_text.result) told.4 c.of_text.ensures;
    }
