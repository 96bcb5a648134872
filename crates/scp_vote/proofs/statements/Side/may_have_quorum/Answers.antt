use Rattle.std.proofs.Common.{rules, ◌≡◌, true, false, sym, ◌∙◌, subst}
use Rattle.std.proofs.lemmas.Bool.{OnFalse_from}
use Rattle.scp_quorum.specs.QuorumTree.{QuorumTree}
use Rattle.scp_quorum.specs.Satisfies.{Satisfies}
use Rattle.scp_quorum.specs.Places.{marked}
use Rattle.scp_vote.specs.inside.Seats.{place_in}
use Rattle.scp_vote.specs.inside.Side.{side}
use Rattle.scp_vote.proofs.Picked.{own_counted}
use Rattle.scp_vote.proofs.Seating.{none_without_local}
use Rattle.scp_vote.proofs.statements.Side.may_have_quorum.Goals as goal

pub returns-then-has-clause-none : goal.returns-then-has-clause-none
returns-then-has-clause-none c =
    let b = side c.args.self.now in
    let first = marked (place_in c.args.self.now.table.now.entries) c.args.marks.now in
    let q : c.set.result.now ≡ c.args.self.now.local.now.value = search rules in
    OnFalse_from c.is_satisfied_by.result _ (λ e. none_without_local first b.counted b.me b.local (own_counted b c.requires)
    (λ h. let P : QuorumTree → Type 0 = λ q. Satisfies first q in
    let t : c.is_satisfied_by.result ≡ true = c.is_satisfied_by.ensures.1 (subst P (sym q) h) in let f : true ≡ false = sym t ∙ e in cc))
