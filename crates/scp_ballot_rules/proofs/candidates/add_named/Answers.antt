use Rattle.std.proofs.Common.{sym, subst}
use Rattle.scp_vote.specs.scp_envelope.specs.declared.statement.Pledges.{Pledges}
use Rattle.scp_ballot_rules.specs.Owed.{Names}
use Rattle.scp_ballot_rules.specs.inside.Finding.{Adds}
use Rattle.scp_ballot_rules.proofs.candidates.add_named.Goals as goal

pub returns-in_ok-add_prepare-in-Prepare-clause-added : goal.returns-in_ok-add_prepare-in-Prepare-clause-added
returns-in_ok-add_prepare-in-Prepare-clause-added c = subst (λ (p : Pledges). Adds (λ x. Names p x) c.args.list.now.items c.add_prepare.new.list.items) (sym c.in-Prepare.is) c.in_ok-add_prepare-in-Prepare.ensures.added

pub returns-in_ok-add_confirm-in-Confirm-clause-added : goal.returns-in_ok-add_confirm-in-Confirm-clause-added
returns-in_ok-add_confirm-in-Confirm-clause-added c = subst (λ (p : Pledges). Adds (λ x. Names p x) c.args.list.now.items c.add_confirm.new.list.items) (sym c.in-Confirm.is) c.in_ok-add_confirm-in-Confirm.ensures.added

pub returns-in_ok-add_externalize-in-Externalize-clause-added : goal.returns-in_ok-add_externalize-in-Externalize-clause-added
returns-in_ok-add_externalize-in-Externalize-clause-added c = subst (λ (p : Pledges). Adds (λ x. Names p x) c.args.list.now.items c.add_externalize.new.list.items) (sym c.in-Externalize.is) c.in_ok-add_externalize-in-Externalize.ensures.added
