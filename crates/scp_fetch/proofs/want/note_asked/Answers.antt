use Rattle.std.proofs.Common.{rules, ◌≡◌, ◌∙◌, ◌+◌, ap, sym, refl, subst, true, false, Bool}
use Rattle.std.specs.Prelude.{Option, Some, None, IfSome, slice_set, slice_index_or, nat_lt, not, is_some}
use Rattle.std.specs.Option.{option_map_or}
use Rattle.scp_fetch.specs.declared.want.Want.{Want}
use Rattle.scp_fetch.specs.inside.Table.{wants_in}
use Rattle.scp_fetch.specs.Wants.{joined}
use Rattle.scp_fetch.proofs.Tables.{stands_of, by_some, changed_none, on_err-of}
use Rattle.scp_fetch.proofs.want.note_asked.Goals as goal

pub returns-in_ok-note-in-Some-clause-wanted : goal.returns-in_ok-note-in-Some-clause-wanted
returns-in_ok-note-in-Some-clause-wanted c =
    ap is_some c.in-Some.ensures.value ∙ (stands_of c.args.hash.now c.args.wants.now.entries c.requires.under c.len-distinct.ensures.unique).wanted

pub returns-in_ok-note-in-Some-clause-asks : goal.returns-in_ok-note-in-Some-clause-asks
returns-in_ok-note-in-Some-clause-asks c =
    let P : Want → Bool = λ w. slice_index_or w.asked c.args.link false in
    c.in_ok-note-in-Some.ensures.asks ∙ ap not (sym ((stands_of c.args.hash.now c.args.wants.now.entries c.requires.under c.len-distinct.ensures.unique).found P ∙ ap (λ r. option_map_or P r false) (sym c.in-Some.ensures.value)))

pub returns-in_ok-note-in-Some-clause-asked : goal.returns-in_ok-note-in-Some-clause-asked
returns-in_ok-note-in-Some-clause-asked c =
    let f : Want → Want = λ v. record v { asked = slice_set v.asked c.args.link true; waiting = joined c.args.conn.now v.waiting } in
    let s = stands_of c.args.hash.now c.args.wants.now.entries c.requires.under c.len-distinct.ensures.unique in
    ap wants_in (c.get_mut.follows.holds _).0 ∙ by_some _ _ c.in-Some.want.now c.in-Some.ensures.value (s.changed f _) c.in_ok-note-in-Some.ensures.noted

pub returns-in_ok-note-in-Some-clause-under : goal.returns-in_ok-note-in-Some-clause-under
returns-in_ok-note-in-Some-clause-under c =
    let s = stands_of c.args.hash.now c.args.wants.now.entries c.requires.under c.len-distinct.ensures.unique in
    rw (c.get_mut.follows.holds _).0 (by_some _ _ c.in-Some.want.now c.in-Some.ensures.value (s.under _) (ap (λ (w : Want). w.hash) c.in_ok-note-in-Some.ensures.noted))

pub returns-in_err-note-in-Some-clause-unchanged : goal.returns-in_err-note-in-Some-clause-unchanged
returns-in_err-note-in-Some-clause-unchanged c =
    let s = stands_of c.args.hash.now c.args.wants.now.entries c.requires.under c.len-distinct.ensures.unique in
    on_err-of c.from_residual.result _ (ap wants_in (c.get_mut.follows.holds _).0 ∙ by_some _ _ c.in-Some.want.now c.in-Some.ensures.value (s.changed (λ w. w) _) c.in_err-note-in-Some.ensures.unchanged ∙ changed_none c.args.hash.now (wants_in c.args.wants.now.entries))

pub returns-in_err-note-in-Some-clause-under : goal.returns-in_err-note-in-Some-clause-under
returns-in_err-note-in-Some-clause-under c =
    let s = stands_of c.args.hash.now c.args.wants.now.entries c.requires.under c.len-distinct.ensures.unique in
    rw (c.get_mut.follows.holds _).0 (by_some _ _ c.in-Some.want.now c.in-Some.ensures.value (s.under _) (ap (λ (w : Want). w.hash) c.in_err-note-in-Some.ensures.unchanged))

pub returns-in-None-clause-wanted : goal.returns-in-None-clause-wanted
returns-in-None-clause-wanted c =
    ap is_some c.in-None.ensures.value ∙ (stands_of c.args.hash.now c.args.wants.now.entries c.requires.under c.len-distinct.ensures.unique).wanted

pub returns-in-None-clause-unasked : goal.returns-in-None-clause-unasked
returns-in-None-clause-unasked c =
    let P : Want → Bool = λ w. slice_index_or w.asked c.args.link false in
    (stands_of c.args.hash.now c.args.wants.now.entries c.requires.under c.len-distinct.ensures.unique).found P ∙ ap (λ r. option_map_or P r false) (sym c.in-None.ensures.value)
