use Rattle.scp_text.proofs.WholeTexts.{messages_come_back, values_come_back, sets_come_back}
use Rattle.scp_text.proofs.laws.what_is_written_says_it.Goals as goal

pub returns-clause-messages : goal.returns-clause-messages
returns-clause-messages c = messages_come_back

pub returns-clause-values : goal.returns-clause-values
returns-clause-values c = values_come_back

pub returns-clause-sets : goal.returns-clause-sets
returns-clause-sets c = sets_come_back
