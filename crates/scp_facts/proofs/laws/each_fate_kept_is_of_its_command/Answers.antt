use Rattle.scp_facts.proofs.InTurn.{node_in_turn}
use Rattle.scp_facts.proofs.laws.each_fate_kept_is_of_its_command.Goals as goal

pub returns : goal.returns
returns c = node_in_turn c.each_command_is_taken_in_its_turn.ensures.run
