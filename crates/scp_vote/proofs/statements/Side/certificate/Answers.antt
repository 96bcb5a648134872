use Rattle.std.proofs.Common.{◌≡◌, true, List, Bool, subst, ◌∙◌}
use Rattle.std.proofs.lemmas.Bool.{OnTrue_at, OnFalse_at}
use Rattle.scp_quorum.specs.NodeSet.{is_in}
use Rattle.scp_quorum.specs.Places.{marked}
use Rattle.scp_vote.specs.Claims.{Stands}
use Rattle.scp_vote.specs.declared.claim.Support.TheVariants.{Accepts}
use Rattle.scp_vote.specs.inside.Statements.{PicksNodes}
use Rattle.scp_vote.specs.inside.Seats.{place_in}
use Rattle.scp_vote.specs.inside.Side.{side}
use Rattle.scp_vote.proofs.Seating.{marks_none, marks_greatest, same_greatest, written}
use Rattle.scp_vote.proofs.statements.Side.certificate.Goals as goal

pub returns-then-not-branch-clause-none : goal.returns-then-not-branch-clause-none
returns-then-not-branch-clause-none c =
    marks_none c.args.self.now (Stands Accepts c.args.claim.now) c.in_ok-accepting.accepting.items c.deref_mut.result.now c.deref_mut.ensures.value c.in_ok-accepting.ensures (OnFalse_at c.if-not-branch.true c.in_ok-has_quorum.ensures.none)

pub returns-clause-found : goal.returns-clause-found
returns-clause-found c =
    let place = place_in c.args.self.now.table.now.entries in
    let us = marked place c.has_quorum.new.marks in
    let nodes = is_in c.in_ok-nodes_at.field-0 in
    let greatest = marks_greatest c.args.self.now (Stands Accepts c.args.claim.now) c.in_ok-accepting.accepting.items c.deref_mut.result.now c.deref_mut.ensures.value c.in_ok-accepting.ensures us (OnTrue_at c.if-not-branch.false c.in_ok-has_quorum.ensures.found) in
    let same : c.deref.result.now ≡ c.has_quorum.new.marks = c.deref.ensures.value ∙ written c.in_ok-accepting.accepting.len c.in_ok-accepting.accepting.items c.deref_mut.result.now c.has_quorum.new.marks c.deref_mut.ensures.value c.has_quorum.ensures.len c.in_ok-accepting.accepting.ok.0 in
    let M : List Bool → Type 0 = λ m. PicksNodes (λ v. marked place m v ≡ true) nodes in
    same_greatest (side c.args.self.now) (Stands Accepts c.args.claim.now) us nodes (subst M same c.in_ok-nodes_at.ensures) greatest
