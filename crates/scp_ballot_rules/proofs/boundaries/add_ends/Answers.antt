use Rattle.scp_ballot_rules.proofs.Adding.{adds_ends}
use Rattle.scp_ballot_rules.proofs.boundaries.add_ends.Goals as goal

pub returns-clause-added : goal.returns-clause-added
returns-clause-added c = adds_ends c.args.low c.args.high c.args.value.now c.args.list.now.items c.add.new.list.items c.add-2.new.list.items c.in_ok-add.ensures.added c.in_ok-add-2.ensures.added
