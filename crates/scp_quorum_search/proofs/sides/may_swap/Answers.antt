use Rattle.std.proofs.Common.{◌≡◌, arith, sym, ◌∙◌}
use Rattle.std.proofs.lemmas.Bool.{OnTrue_at, OnTrue_from}
use Rattle.scp_quorum.specs.NodeSet.{is_in}
use Rattle.scp_quorum_search.proofs.Swapping.{may_swap}
use Rattle.scp_quorum_search.proofs.sides.may_swap.Goals as goal

pub returns : goal.returns
returns c =
    let same : c.times-one.result ≡ c.times-other.result = omega (arith, c.if-one-other.false) in
    let even = sym c.times-one.ensures ∙ same ∙ c.times-other.ensures in
    OnTrue_from c.stand_together_in_all.result _
    (λ e.
    may_swap (is_in c.args.liars.now) c.args.members.now c.args.a.now c.args.b.now (sym c.contains.ensures ∙ c.if-contains.false) (sym c.contains-2.ensures ∙ c.if-contains-2.false)
    (OnTrue_at c.if-not-have_one_set.false c.have_one_set.ensures) (OnTrue_at c.if-not-have_one_set-2.false c.have_one_set-2.ensures) (OnTrue_at e c.stand_together_in_all.ensures) even)
