use Rattle.std.proofs.Common.{List, subst, string_bytes}
use Rattle.scp_script_hints.specs.scp_script.specs.declared.command.Command.{Command}
use Rattle.scp_script_hints.specs.Told.{members_in, TellsQuorums}
use Rattle.scp_command.proofs.looks.quorums.Goals as goal

pub returns-in-Ok-clause-answer : goal.returns-in-Ok-clause-answer
returns-in-Ok-clause-answer c =
    let said = c.in_ok-script.ensures.said in
    record {
      given = c.in_ok-given.given;
      is_given = c.in_ok-given.ensures.given;
      commands = c.in_ok-script.script.commands.items;
      lines = said.0;
      said = said.1;
      text = string_bytes c.in-Ok.told;
      tells = subst (λ (commands : List Command). TellsQuorums (members_in commands) (string_bytes c.in-Ok.told)) c.as_slice.ensures.value c.in-Ok.ensures.tells;
      just = c.of_text.ensures;
    }
