use Rattle.scp_ballot_rules.proofs.Saying.{step_says, composing_says, timing_says, input_says}
use Rattle.scp_ballot_rules.proofs.laws.the_rules_say_what_stands.Goals as goal

pub returns-clause-step : goal.returns-clause-step
returns-clause-step c = step_says

pub returns-clause-composing : goal.returns-clause-composing
returns-clause-composing c = composing_says

pub returns-clause-timing : goal.returns-clause-timing
returns-clause-timing c = timing_says

pub returns-clause-input : goal.returns-clause-input
returns-clause-input c = input_says
