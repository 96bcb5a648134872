use Rattle.std.proofs.Common.{rules, ◌≡◌, ◌∙◌, ◌+◌, ap, sym, refl, subst, true, false}
use Rattle.std.specs.Prelude.{Option, Some, None, IfSome, slice_set, nat_lt}
use Rattle.std.specs.Option.{option_map_or}
use Rattle.scp_fetch.specs.declared.want.Want.{Want}
use Rattle.scp_fetch.specs.inside.Table.{wants_in}
use Rattle.scp_fetch.specs.declared.want.Miss.TheVariants.{One}
use Rattle.scp_fetch.specs.Wants.{is_last, missed_by}
use Rattle.scp_fetch.proofs.Tables.{stands_of, missed_none, missed_more, by_some, few_by, one_more}
use Rattle.scp_fetch.proofs.want.note_missed.Goals as goal

pub returns-in-Some-clause-counted : goal.returns-in-Some-clause-counted
returns-in-Some-clause-counted c =
    let s = stands_of c.args.hash.now c.args.wants.now.entries c.requires.under c.len-distinct.ensures.unique in
    let few : nat_lt 10 c.in-Some.want.now.misses ≡ false = few_by c.args.hash.now c.args.wants.now.entries c.in-Some.want.now c.requires.under c.len-distinct.ensures.unique c.in-Some.ensures.value c.requires.waits in
    ap wants_in (c.get_mut.follows.holds _).0 ∙ by_some _ _ c.in-Some.want.now c.in-Some.ensures.value (s.changed missed_more _) (one_more c.in-Some.want.now _ few (search rules)) ∙ sym (by_some _ _ c.in-Some.want.now c.in-Some.ensures.value s.waits few)

pub returns-in-Some-clause-under : goal.returns-in-Some-clause-under
returns-in-Some-clause-under c =
    let s = stands_of c.args.hash.now c.args.wants.now.entries c.requires.under c.len-distinct.ensures.unique in
    rw (c.get_mut.follows.holds _).0 (by_some _ _ c.in-Some.want.now c.in-Some.ensures.value (s.under _) refl)

pub returns-in_default-clause-counted : goal.returns-in_default-clause-counted
returns-in_default-clause-counted c =
    let s = stands_of c.args.hash.now c.args.wants.now.entries c.requires.under c.len-distinct.ensures.unique in
    ap (λ m. wants_in m.entries) c.get_mut.follows.holds-at-none ∙ sym (missed_none c.args.hash.now (wants_in c.args.wants.now.entries) (sym s.wanted ∙ (search rules)))
