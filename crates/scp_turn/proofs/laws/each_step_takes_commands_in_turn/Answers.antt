use Rattle.scp_turn.proofs.Commands.{none_in_turn, steps_in_turn}
use Rattle.scp_turn.proofs.laws.each_step_takes_commands_in_turn.Goals as goal

pub returns : goal.returns
returns g c = record {
  none = none_in_turn g.D.Driver.says;
  step = steps_in_turn g.D.Driver.says c.each_command_passes_once.ensures.commands c.what_is_read_keeps_the_shape.ensures;
}
