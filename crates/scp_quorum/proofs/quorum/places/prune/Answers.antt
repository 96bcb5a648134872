use Rattle.std.proofs.Common.{List, Bool, sym, subst}
use Rattle.std.proofs.lemmas.Bool.{OnFalse_from, OnFalse_at}
use Rattle.scp_quorum.specs.Places.{marked}
use Rattle.scp_quorum.specs.inside.Marks.{AreVerdicts}
use Rattle.scp_quorum.proofs.Marking.{marks_keep, marks_settled}
use Rattle.scp_quorum.proofs.quorum.places.prune.Goals as goal

pub returns-clause-kept : goal.returns-clause-kept
returns-clause-kept g c =
    let place = g.P.Places.place c.args.places.now in
    let V : List Bool → Type 0 = λ bs. AreVerdicts (marked place c.args.marks.now) c.args.sets.now bs in
    marks_keep place c.args.seats.now c.args.sets.now c.deref.result.now c.args.marks.now c.unmark.new.marks (subst V (sym c.deref.ensures.value) c.in_ok-verdicts.ensures) c.unmark.ensures.within c.unmark.ensures.others

pub returns-clause-settled : goal.returns-clause-settled
returns-clause-settled g c =
    let place = g.P.Places.place c.args.places.now in
    let V : List Bool → Type 0 = λ bs. AreVerdicts (marked place c.args.marks.now) c.args.sets.now bs in
    OnFalse_from c.unmark.result _ (λ e.
    marks_settled place c.args.seats.now c.args.sets.now c.deref.result.now c.args.marks.now c.unmark.new.marks (subst V (sym c.deref.ensures.value) c.in_ok-verdicts.ensures) c.unmark.ensures.within
    (OnFalse_at e c.unmark.ensures.none) (OnFalse_at e c.unmark.ensures.same))
