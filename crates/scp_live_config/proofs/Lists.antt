-- Elements of lists by their places.
use Rattle.std.proofs.Common.{◌≡◌, ◌≢◌, ◌⊎◌, ℕ, zero, suc, ◌<◌, Bool, true, false, List, [], ◌∷◌, ◌++◌, length, drop, map, Option, Some, None, cond, refl, sym, ap, ◌∙◌, inl, inr, arith, subst}
use Rattle.std.specs.List.{slice_get, list_all, find}
use Rattle.std.proofs.lemmas.Option.{same_Some, none-some, slice_get_within}
use Rattle.std.proofs.lemmas.Bool.{and_parts}
use Rattle.scp_live_config.specs.Names.{NoTwo}

-- the element behind the first ones
pub at_seam : {A : Type 0} → (xs : List A) (y : A) (ys : List A) → slice_get (xs ++ y ∷ ys) (length xs) ≡ Some y
at_seam [] y ys = refl
at_seam (x ∷ xs) y ys = at_seam xs y ys

-- one of the first ones
pub at_left : {A : Type 0} → (xs ys : List A) (i : ℕ) (x : A) → slice_get xs i ≡ Some x → slice_get (xs ++ ys) i ≡ Some x
at_left [] ys i x e = absurd (none-some x e)
at_left (a ∷ xs) ys zero x e = e
at_left (a ∷ xs) ys (suc i) x e = at_left xs ys i x e

-- one of the first ones, or the last
pub at_push : {A : Type 0} → (xs : List A) (y : A) (i : ℕ) (x : A) → slice_get (xs ++ y ∷ []) i ≡ Some x → (slice_get xs i ≡ Some x) ⊎ ((i ≡ length xs) × (y ≡ x))
at_push [] y zero x e = inr (refl, same_Some y x e)
at_push [] y (suc i) x e = absurd (none-some x e)
at_push (a ∷ xs) y zero x e = inl e
at_push (a ∷ xs) y (suc i) x e =
    elim (at_push xs y i x e) [
      | inl here ↦ inl here
      | inr last ↦ inr (ap suc last.0, last.1)
    ]

-- the last is like none of the first ones
pub no_two_push : {A B : Type 0} → (f : A → B) (xs : List A) (y : A) → NoTwo f xs → ((i : ℕ) (x : A) → slice_get xs i ≡ Some x → f x ≢ f y) → NoTwo f (xs ++ y ∷ [])
no_two_push f xs y apart new i j a b below at_i at_j =
    elim (at_push xs y j b at_j) [
      | inl j_old ↦ elim (at_push xs y i a at_i) [
        | inl i_old ↦ apart i j a b below i_old j_old
        | inr i_last ↦ absurd (let h : j < length xs = slice_get_within xs j b j_old in let e : i ≡ length xs = i_last.0 in omega arith)
      ]
      | inr j_last ↦ elim (at_push xs y i a at_i) [
        | inl i_old ↦ λ same. new i a i_old (same ∙ ap f (sym j_last.1))
        | inr i_last ↦ absurd (let h : j ≡ length xs = j_last.0 in let e : i ≡ length xs = i_last.0 in omega arith)
      ]
    ]

-- what is told of a place among those that are told
pub all_at : {B : Type 0} → (ys : List B) (i : ℕ) (y : B) → slice_get (map Some ys) i ≡ Some (Some y) → slice_get ys i ≡ Some y
all_at [] i y e = absurd (none-some (Some y) e)
all_at (x ∷ ys) zero y e = same_Some (Some x) (Some y) e
all_at (x ∷ ys) (suc i) y e = all_at ys i y e

-- what is told of a place, where all are told
pub told_at : {A B : Type 0} → (f : A → Option B) (xs : List A) (ys : List B) (i : ℕ) (y : B) → map f xs ≡ map Some ys → slice_get (map f xs) i ≡ Some (Some y) → slice_get ys i ≡ Some y
told_at f xs ys i y e at_i = all_at ys i y (subst (λ zs. slice_get zs i ≡ Some (Some y)) e at_i)

-- none of those that are told is told nothing
pub no_none : {B : Type 0} → (ys : List B) (i : ℕ) → slice_get (map Some ys) i ≡ Some None → ⊥
no_none [] i e = none-some None e
no_none (x ∷ ys) zero e = none-some x (sym (same_Some (Some x) None e))
no_none (x ∷ ys) (suc i) e = no_none ys i e

-- where all are told something, none is told nothing
pub none_at : {A B : Type 0} → (f : A → Option B) (xs : List A) (ys : List B) (i : ℕ) → map f xs ≡ map Some ys → slice_get (map f xs) i ≡ Some None → ⊥
none_at f xs ys i e at_i = no_none ys i (subst (λ zs. slice_get zs i ≡ Some None) e at_i)

-- the same told, the same
pub same_told : {B : Type 0} → (xs ys : List B) → map Some xs ≡ map Some ys → xs ≡ ys
same_told [] [] e = refl
same_told [] (y ∷ ys) e = absurd (omega (arith, ap length e))
same_told (x ∷ xs) [] e = absurd (omega (arith, ap length e))
same_told (x ∷ xs) (y ∷ ys) e = let h : x ≡ y = same_Some x y (same_Some (Some x) (Some y) (ap (λ l. slice_get l 0) e)) in let t : xs ≡ ys = same_told xs ys (ap (drop 1) e) in cc

-- the element at a place passes a test that all pass
pub passes_at : {A : Type 0} → (test : A → Bool) (xs : List A) (i : ℕ) (x : A) → list_all test xs ≡ true → slice_get xs i ≡ Some x → test x ≡ true
passes_at test [] i x all e = absurd (none-some x e)
passes_at test (a ∷ xs) zero x all e = ap test (sym (same_Some a x e)) ∙ (and_parts (test a) (list_all test xs) all).0
passes_at test (a ∷ xs) (suc i) x all e = passes_at test xs i x (and_parts (test a) (list_all test xs) all).1 e

-- one more that passes
pub all_push : {A : Type 0} → (test : A → Bool) (xs : List A) (x : A) → list_all test xs ≡ true → test x ≡ true → list_all test (xs ++ x ∷ []) ≡ true
all_push test [] x all here = rw here
all_push test (a ∷ xs) x all here =
    let parts = and_parts (test a) (list_all test xs) all in
    rw (parts.0, all_push test xs x parts.1 here)

-- no two of none
pub no_two_nil : {A B : Type 0} → (f : A → B) → NoTwo f []
no_two_nil f i j x y below at_i at_j = absurd (none-some x at_i)

found_here : {A : Type 0} → (test : A → Bool) (x y : A) (rest : Option A) (b : Bool) → test x ≡ b → cond b (Some x) rest ≡ Some y → ((b ≡ true) × (x ≡ y)) ⊎ ((b ≡ false) × (rest ≡ Some y))
found_here test x y rest true e h = inl (refl, same_Some x y h)
found_here test x y rest false e h = inr (refl, h)

-- where the one that is found stands
pub found_at : {A : Type 0} → (test : A → Bool) (xs : List A) (y : A) → find test xs ≡ Some y → (i : ℕ) × (slice_get xs i ≡ Some y) × (test y ≡ true)
found_at test [] y h = absurd (none-some y h)
found_at test (x ∷ xs) y h =
    elim (found_here test x y (find test xs) (test x) refl h) [
      | inl here ↦ (zero, ap Some here.1, ap test (sym here.1) ∙ here.0)
      | inr later ↦ let r = found_at test xs y later.1 in (suc r.0, r.1, r.2)
    ]

lost_here : {A : Type 0} → (x : A) (rest : Option A) (b : Bool) → cond b (Some x) rest ≡ None → (b ≡ false) × (rest ≡ None)
lost_here x rest true h = absurd (none-some x (sym h))
lost_here x rest false h = (refl, h)

-- where none is found, none passes
pub lost : {A : Type 0} → (test : A → Bool) (xs : List A) (i : ℕ) (y : A) → find test xs ≡ None → slice_get xs i ≡ Some y → test y ≡ false
lost test [] i y h e = absurd (none-some y e)
lost test (x ∷ xs) zero y h e = ap test (sym (same_Some x y e)) ∙ (lost_here x (find test xs) (test x) h).0
lost test (x ∷ xs) (suc i) y h e = lost test xs i y (lost_here x (find test xs) (test x) h).1 e
