use Rattle.std.proofs.Common.{sym, subst}
use Rattle.scp_vote.specs.scp_envelope.specs.declared.statement.Pledges.{Pledges}
use Rattle.scp_ballot_rules.specs.Owed.{Bounds}
use Rattle.scp_ballot_rules.specs.inside.Finding.{Adds}
use Rattle.scp_ballot_rules.proofs.boundaries.add_bounds.Goals as goal

pub returns-in_ok-add_vote-in-Prepare-clause-added : goal.returns-in_ok-add_vote-in-Prepare-clause-added
returns-in_ok-add_vote-in-Prepare-clause-added c = subst (λ (p : Pledges). Adds (λ x. Bounds p x.value x.counter) c.args.list.now.items c.add_vote.new.list.items) (sym c.in-Prepare.is) c.in_ok-add_vote-in-Prepare.ensures.added

pub returns-in_ok-add_ends-in-Confirm-clause-added : goal.returns-in_ok-add_ends-in-Confirm-clause-added
returns-in_ok-add_ends-in-Confirm-clause-added c = subst (λ (p : Pledges). Adds (λ x. Bounds p x.value x.counter) c.args.list.now.items c.add_ends.new.list.items) (sym c.in-Confirm.is) c.in_ok-add_ends-in-Confirm.ensures.added

pub returns-in_ok-add_ends-in-Externalize-clause-added : goal.returns-in_ok-add_ends-in-Externalize-clause-added
returns-in_ok-add_ends-in-Externalize-clause-added c = subst (λ (p : Pledges). Adds (λ x. Bounds p x.value x.counter) c.args.list.now.items c.add_ends-in-Externalize.new.list.items) (sym c.in-Externalize.is) c.in_ok-add_ends-in-Externalize.ensures.added
