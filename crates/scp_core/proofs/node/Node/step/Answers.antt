use Rattle.scp_core.proofs.Faults.{step_fault}
use Rattle.scp_core.proofs.node.Node.step.Goals as goal

pub returns-clause-theorem : goal.returns-clause-theorem
returns-clause-theorem g c = λ past h. c.what_holds_of_a_past_holds_with_one_step_more.ensures.keeps past c.args.self.now _ c.args.event c.perform.result c.perform.ensures h

pub returns-clause-headline : goal.returns-clause-headline
returns-clause-headline g c = λ past h. c.each_node_holds_its_headline.ensures.headline _ _ (c.each_node_holds_its_ledger.ensures.ledger _ _ (returns-clause-theorem g c past h))

pub returns-clause-theorem_from : goal.returns-clause-theorem_from
returns-clause-theorem_from g c = λ first base past h. c.what_holds_of_a_past_holds_with_one_step_more.ensures.from first base past c.args.self.now _ c.args.event c.perform.result c.perform.ensures h

pub returns-clause-headline_from : goal.returns-clause-headline_from
returns-clause-headline_from g c = λ first base past h. c.each_node_holds_its_headline.ensures.from first base _ _ (c.each_node_holds_its_ledger.ensures.from first base _ _ (returns-clause-theorem_from g c first base past h))

pub returns-clause-why : goal.returns-clause-why
returns-clause-why g c = step_fault g.A.Driver.says c.args.self.now _ c.args.event c.perform.result c.perform.ensures
