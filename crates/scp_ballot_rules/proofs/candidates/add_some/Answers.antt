use Rattle.scp_ballot_rules.proofs.Adding.{adds_some, adds_no}
use Rattle.scp_ballot_rules.proofs.candidates.add_some.Goals as goal

pub returns-in_ok-add-in-Some-clause-added : goal.returns-in_ok-add-in-Some-clause-added
returns-in_ok-add-in-Some-clause-added c = adds_some c.args.ballot.now c.in-Some.ballot c.args.list.now.items c.add.new.list.items c.in-Some.is c.in_ok-add-in-Some.ensures.added

pub returns-in-None-clause-added : goal.returns-in-None-clause-added
returns-in-None-clause-added c = adds_no c.args.ballot.now c.args.list.now.items c.in-None.is
