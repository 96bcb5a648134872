-- At most one statement of each slot and kind waits, whatever comes.
use Rattle.std.proofs.Common.{◌≡◌, ℕ, ◌+◌, ◌-◌, ◌<◌, ◌≤◌, Bool, true, false, nat_eq, List, [], ◌∷◌, ◌++◌, length, refl, sym, ◌∙◌, ap, subst, arith, All, get_or, set, inl, inr}
use Rattle.std.specs.Prelude.{◌&&◌, Option, Some, None, AllPairs, drop, position, slice_get, MatchOption}
use Rattle.std.specs.List.{position_or_len}
use Rattle.std.proofs.lemmas.Bool.{cases_eq, eqb-true, and_parts}
use Rattle.std.proofs.lemmas.Grind.{common_steps, get_or-set_at}
use Rattle.std.proofs.lemmas.List.{get_or-drop, get_or-set_other, length-drop, length-set}
use Rattle.std.proofs.lemmas.List.Sums.{fails_before_first}
use Rattle.std.proofs.lemmas.List.Quantifiers.{all_pairs_push, position-Some}
use Rattle.std.proofs.lemmas.Option.{get_or_from_slice_get}
use Rattle.scp_wire.specs.scp_envelope.specs.declared.statement.Statement.{Statement}
use Rattle.scp_wire.specs.Boxed.{Boxed}
use Rattle.scp_outbox.specs.Outbox.{is_nomination, same_bool, are_alike, AreOneEach, GoesLast, Replaces, Takes}

same_bool_is : (a b : Bool) → same_bool a b ≡ true → a ≡ b
same_bool_is true b h = sym h
same_bool_is false true h = absurd cc
same_bool_is false false h = refl

-- what are alike have one slot and one kind
alike_is : (s t : Statement) → are_alike s t ≡ true → (s.slot.0 ≡ t.slot.0) × (is_nomination s.pledges ≡ is_nomination t.pledges)
alike_is s t h =
    let p = and_parts (nat_eq s.slot.0 t.slot.0) (same_bool (is_nomination s.pledges) (is_nomination t.pledges)) h in
    (eqb-true s.slot.0 t.slot.0 p.0, same_bool_is (is_nomination s.pledges) (is_nomination t.pledges) p.1)

-- so any other statement is alike to both or to neither
alike_left : (s t u : Statement) → are_alike s t ≡ true → are_alike s u ≡ are_alike t u
alike_left s t u h =
    let is = alike_is s t h in
    ap (λ n. nat_eq n u.slot.0 && same_bool (is_nomination s.pledges) (is_nomination u.pledges)) is.0
    ∙ ap (λ b. nat_eq t.slot.0 u.slot.0 && same_bool b (is_nomination u.pledges)) is.1

alike_right : (s t u : Statement) → are_alike s t ≡ true → are_alike u s ≡ are_alike u t
alike_right s t u h =
    let is = alike_is s t h in
    ap (λ n. nat_eq u.slot.0 n && same_bool (is_nomination u.pledges) (is_nomination s.pledges)) is.0
    ∙ ap (λ b. nat_eq u.slot.0 t.slot.0 && same_bool (is_nomination u.pledges) b) is.1

none_passes : {X : Type 0} (p : X → Bool) (xs : List X) → position p xs ≡ None → All (λ x. p x ≡ false) xs
none_passes p xs e k d below =
    let beyond : length xs ≤ position_or_len p xs = grind (arith, common_steps) in
    fails_before_first p xs k d (omega arith)

pairs_drop : {X : Type 0} (R : X → X → Type 0) (n : ℕ) (xs : List X) → AllPairs R xs → AllPairs R (drop n xs)
pairs_drop R n xs h i j d lt below =
    rw (get_or-drop n xs i d, get_or-drop n xs j d) (h (n + i) (n + j) d (omega arith) (omega (arith, length-drop n xs)))

-- if one makes way for another to which the others are related as to it, all pairs are related as before
pairs_set : {X : Type 0} (R : X → X → Type 0) (xs : List X) (i : ℕ) (held e : X) → slice_get xs i ≡ Some held → ((x : X) → R held x → R e x) → ((x : X) → R x held → R x e) → AllPairs R xs → AllPairs R (set xs i e)
pairs_set {X} R xs i held e at to from h j k d lt below =
    let long : length (set xs i e) ≡ length xs = length-set xs i e in
    (as_before j d (omega arith)).0 (get_or (set xs i e) k d) ((as_before k d (omega arith)).1 (get_or xs j d) (h j k d lt (omega arith)))
  where
    as_before : (n : ℕ) (d : X) → n < length xs → ((x : X) → R (get_or xs n d) x → R (get_or (set xs i e) n d) x) × ((x : X) → R x (get_or xs n d) → R x (get_or (set xs i e) n d))
    as_before n d below = elim (cases_eq n i) [
      | inl same ↦ (
          let was : get_or xs n d ≡ held = ap (λ m. get_or xs m d) same ∙ get_or_from_slice_get xs i held d at in
          let is : get_or (set xs i e) n d ≡ e = get_or-set_at xs i n e d same (omega (arith, same, below)) in (
            λ x r. subst (λ y. R y x) (sym is) (to x (subst (λ y. R y x) was r)),
            λ x r. subst (R x) (sym is) (from x (subst (R x) was r)),
          )
          )
      | inr other ↦ (
          let is : get_or (set xs i e) n d ≡ get_or xs n d = get_or-set_other xs i n e d other in (
            λ x r. subst (λ y. R y x) (sym is) r,
            λ x r. subst (R x) (sym is) r,
          )
          )
    ]

abbrev Apart : Boxed → Boxed → Type 0
Apart a b = are_alike a.value.statement b.value.statement ≡ false

takes_by : (old : List Boxed) (e : Boxed) (new : List Boxed) (lost : ℕ) (o : Option ℕ) → position (λ (held : Boxed). are_alike held.value.statement e.value.statement) old ≡ o → AreOneEach old → MatchOption o (GoesLast old e new lost) (λ place. Replaces old place e new lost) → AreOneEach new
takes_by old e new lost None at one h =
    subst AreOneEach (sym h.0) (pairs_drop Apart (length (old ++ e ∷ []) - 64) (old ++ e ∷ []) (all_pairs_push Apart old e one (none_passes (λ (held : Boxed). are_alike held.value.statement e.value.statement) old at)))
takes_by old e new lost (Some i) at one h =
    let held : Boxed = h.0 in
    let there = position-Some (λ (held : Boxed). are_alike held.value.statement e.value.statement) old i held at in
    let same : are_alike held.value.statement e.value.statement ≡ true = subst (λ (x : Boxed). are_alike x.value.statement e.value.statement ≡ true) (get_or_from_slice_get old i held held h.1) there.1 in
    elim h.2 [
      | inl w ↦ subst AreOneEach (sym w.1) (pairs_set Apart old i held e h.1
          (λ x r. sym (alike_left held.value.statement e.value.statement x.value.statement same) ∙ r)
          (λ x r. sym (alike_right held.value.statement e.value.statement x.value.statement same) ∙ r) one)
      | inr w ↦ subst AreOneEach (sym w.1) one
    ]

pub one_each_takes : (old : List Boxed) (e : Boxed) (new : List Boxed) (lost : ℕ) → AreOneEach old → Takes old e new lost → AreOneEach new
one_each_takes old e new lost one h = takes_by old e new lost (position (λ (held : Boxed). are_alike held.value.statement e.value.statement) old) refl one h
