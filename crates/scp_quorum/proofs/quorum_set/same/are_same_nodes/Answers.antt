use Rattle.std.proofs.Common.{◌≡◌, length, arith, refl, sym, ◌∙◌, ap}
use Rattle.std.proofs.lemmas.Bool.{OnTrue_from, OnFalse_from, false≢true}
use Rattle.std.proofs.lemmas.Slice.Eq.{bytes_eq-Decides}
use Rattle.scp_quorum.proofs.Same.{same_more, same_all, zero_more}
use Rattle.scp_quorum.proofs.quorum_set.same.are_same_nodes.Goals as goal

pub loop-i-init : goal.loop-i-init
loop-i-init c = (λ none. refl, λ same. refl)

pub loop-i-preserved : goal.loop-i-preserved
loop-i-preserved c =
    let mine = c.bytes_of in
    let theirs = c.bytes_of-in-loop-i in
    let full : length c.loop-i.unequal ≡ 32 = c.loop-i.auto.unequal.0 in
    let mine_full : length mine.result ≡ length c.loop-i.unequal = ap length mine.ensures.value ∙ mine.ensures.len ∙ sym full in
    let theirs_full : length theirs.result ≡ length c.loop-i.unequal = ap length theirs.ensures.value ∙ theirs.ensures.len ∙ sym full in (
      same_more c.loop-i.unequal mine.result theirs.result c.args.mine.now c.args.theirs.now c.loop-i.i c.loop-i-test.true (omega (arith, c.loop-i-test.true, c.if-mine-theirs.false)) mine.ensures.value theirs.ensures.value mine_full theirs_full c.loop-i.invariant.0,
      zero_more c.loop-i.unequal mine.result theirs.result c.args.mine.now c.args.theirs.now c.loop-i.i mine.ensures.value theirs.ensures.value (mine_full ∙ full) c.loop-i.invariant.1,
    )

pub returns-clause-equal : goal.returns-clause-equal
returns-clause-equal c =
    OnTrue_from c.eq.result _
    (λ e. same_all c.loop-i.unequal c.args.mine.now c.args.theirs.now c.loop-i.i c.loop-i-test.false (omega (arith, c.loop-i-test.false, c.if-mine-theirs.false)) c.loop-i.invariant.0 ((bytes_eq-Decides c.loop-i.unequal _).0 (sym c.eq.ensures ∙ e)))

pub returns-clause-different : goal.returns-clause-different
returns-clause-different c =
    OnFalse_from c.eq.result _
    (λ e same. false≢true (sym e ∙ c.eq.ensures ∙ (bytes_eq-Decides c.loop-i.unequal _).1 (c.loop-i.invariant.1 same)))
