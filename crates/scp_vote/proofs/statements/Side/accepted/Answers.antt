use Rattle.std.proofs.Common.{◌≡◌, true, false, refl, sym, ◌∙◌, inr}
use Rattle.scp_quorum.specs.Places.{marked}
use Rattle.scp_vote.specs.Claims.{Stands}
use Rattle.scp_vote.specs.declared.claim.Support.TheVariants.{VotesOrAccepts, Accepts}
use Rattle.scp_vote.specs.inside.Seats.{place_in}
use Rattle.scp_vote.specs.inside.Side.{side}
use Rattle.scp_vote.proofs.Seating.{marks_exactly, marks_block, accepted_exactly}
use Rattle.scp_vote.proofs.statements.Side.accepted.Goals as goal

pub returns-then-is_blocked_by-clause-exact : goal.returns-then-is_blocked_by-clause-exact
returns-then-is_blocked_by-clause-exact c =
    let s = c.in_ok-standing.standing in
    let iff = marks_block c.args.self.now (Stands Accepts c.args.claim.now) s.accepting.items c.deref.result.now c.deref.ensures.value c.in_ok-standing.ensures.accepting c.is_blocked_by.result c.is_blocked_by.ensures in
    (λ t. inr (iff.0 c.if-is_blocked_by.true), λ h. refl)

pub returns-clause-exact : goal.returns-clause-exact
returns-clause-exact c =
    let s = c.in_ok-standing.standing in
    let iff = marks_block c.args.self.now (Stands Accepts c.args.claim.now) s.accepting.items c.deref.result.now c.deref.ensures.value c.in_ok-standing.ensures.accepting c.is_blocked_by.result c.is_blocked_by.ensures in
    let us = marked (place_in c.args.self.now.table.now.entries) c.has_quorum.new.marks in
    accepted_exactly (side c.args.self.now) c.args.claim.now c.has_quorum.result (λ blocks. let f : true ≡ false = sym (iff.1 blocks) ∙ c.if-is_blocked_by.false in cc)
    (marks_exactly c.args.self.now (Stands VotesOrAccepts c.args.claim.now) s.supporting.items c.deref_mut.result.now c.deref_mut.ensures.value c.in_ok-standing.ensures.supporting us c.has_quorum.result c.has_quorum.ensures.found c.has_quorum.ensures.none)
