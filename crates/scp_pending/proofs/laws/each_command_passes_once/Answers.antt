use Rattle.scp_pending.proofs.Ending.{commands_pass}
use Rattle.scp_pending.proofs.laws.each_command_passes_once.Goals as goal

pub returns : goal.returns
returns c = record { commands = commands_pass }
