use Rattle.scp_pending.proofs.Placing.{commands_keep_place}
use Rattle.scp_pending.proofs.laws.each_command_keeps_its_place.Goals as goal

pub returns : goal.returns
returns c = record { place = commands_keep_place }
