use Rattle.std.proofs.Common.{◌≡◌, sym, ◌∙◌}
use Rattle.std.proofs.lemmas.Bool.{OnTrue_from}
use Rattle.std.proofs.lemmas.Bool.Decides.{Decides-eqb}
use Rattle.std.proofs.lemmas.Slice.Eq.{slice_eq-Decides}
use Rattle.scp_quorum_search.proofs.Rows.{one_spelling}
use Rattle.scp_quorum_search.proofs.sides.are_same.Goals as goal

pub returns-in-Some-Some : goal.returns-in-Some-Some
returns-in-Some-Some c =
    OnTrue_from c.eq.result _
    (λ e.
    let bytes : c.as_slice.result.now ≡ c.as_slice-in-Some-Some.result.now = (slice_eq-Decides Decides-eqb _ _ _ c.eq.ensures).0 e in
    one_spelling c.no_spelling_begins_another.ensures c.a_quorum_set_is_its_value.ensures.set c.args.one.now c.args.other.now c.in-Some-Some.bytes.items c.in-Some-Some.others.items c.in-Some-Some.ensures c.in-Some-Some.ensures'
    (sym c.as_slice.ensures.value ∙ bytes ∙ c.as_slice-in-Some-Some.ensures.value))
