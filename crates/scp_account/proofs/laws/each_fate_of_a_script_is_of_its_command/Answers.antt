use Rattle.scp_account.proofs.InTurn.{script_in_turn}
use Rattle.scp_account.proofs.laws.each_fate_of_a_script_is_of_its_command.Goals as goal

pub returns : goal.returns
returns c = script_in_turn c.each_fate_is_of_its_command.ensures.played
