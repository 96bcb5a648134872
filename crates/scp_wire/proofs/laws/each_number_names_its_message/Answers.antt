use Rattle.scp_wire.proofs.Lines.{numbers_name, others_have_none}
use Rattle.scp_wire.proofs.laws.each_number_names_its_message.Goals as goal

pub returns-clause-numbers : goal.returns-clause-numbers
returns-clause-numbers c = numbers_name

pub returns-clause-others : goal.returns-clause-others
returns-clause-others c = others_have_none
