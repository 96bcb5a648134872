use Rattle.std.proofs.Common.{◌≡◌, ◌∙◌, Some, ap, sym}
use Rattle.scp_ballot_rules.specs.scp_envelope.specs.declared.statement.Envelope.{Envelope}
use Rattle.scp_ballot_rules.specs.scp_envelope.specs.declared.statement.Pledges.TheVariants.{Externalize as Externalizing, Nominate as Nominating}
use Rattle.scp_ballot_rules.specs.scp_vote.specs.declared.claim.StatementKind.TheVariants.{Balloting}
use Rattle.scp_ballot_rules.specs.scp_vote.specs.Seen.{seen}
use Rattle.scp_stand_needs.proofs.DueBallots.{externalized_needs, nominating_needs}
use Rattle.scp_stand_needs.proofs.balloted.needs_of_ballots.Goals as goal

pub returns-in-Externalize-clause-needs : goal.returns-in-Externalize-clause-needs
returns-in-Externalize-clause-needs c =
    let b = seen Balloting c.args.board.now in
    let own : b.statement b.me ≡ Some (Externalizing c.in-Externalize.field-0) = sym c.in-Some.ensures.pledges ∙ ap Some (ap (λ (e : Envelope). e.statement.pledges) (sym c.get.ensures) ∙ c.in-Externalize.is) in
    externalized_needs c.args.board.now c.args.members.now c.new.result.items c.in-Externalize.field-0 own c.new.ensures.items

pub returns-in-Nominate-clause-needs : goal.returns-in-Nominate-clause-needs
returns-in-Nominate-clause-needs c =
    let b = seen Balloting c.args.board.now in
    let own : b.statement b.me ≡ Some (Nominating c.in-Nominate.field-0) = sym c.in-Some.ensures.pledges ∙ ap Some (ap (λ (e : Envelope). e.statement.pledges) (sym c.get.ensures) ∙ c.in-Nominate.is) in
    nominating_needs c.args.board.now c.args.members.now c.new-in-Nominate.result.items c.in-Nominate.field-0 own c.new-in-Nominate.ensures.items
