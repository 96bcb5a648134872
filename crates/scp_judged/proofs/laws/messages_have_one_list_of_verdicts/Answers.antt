use Rattle.scp_judged.proofs.Judging.{verdicts_one}
use Rattle.scp_judged.proofs.laws.messages_have_one_list_of_verdicts.Goals as goal

pub returns : goal.returns
returns c = verdicts_one
