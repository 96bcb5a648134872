use Rattle.scp_ballot_rules.proofs.Lawful.{step_function, settling_function, composing_function, timing_function, input_function}
use Rattle.scp_ballot_rules.proofs.laws.the_rules_are_a_function.Goals as goal

pub returns-clause-step : goal.returns-clause-step
returns-clause-step c = step_function

pub returns-clause-settling : goal.returns-clause-settling
returns-clause-settling c = settling_function

pub returns-clause-composing : goal.returns-clause-composing
returns-clause-composing c = composing_function

pub returns-clause-timing : goal.returns-clause-timing
returns-clause-timing c = timing_function

pub returns-clause-input : goal.returns-clause-input
returns-clause-input c = input_function
