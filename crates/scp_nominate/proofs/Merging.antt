-- Lists that ascend. Those with the same elements are one list, and those that differ only in what does nothing do the same in turn.
use Rattle.std.proofs.Common.{◌≡◌, ◌+◌, ◌≤◌, ℕ, zero, suc, List, [], ◌∷◌, length, refl, sym, ◌∙◌, ap, subst, ◌⊎◌, inl, inr, arith, Contains}
use Rattle.std.specs.Ordering.{ordering_reverse}
use Rattle.std.specs.declared.cmp.Ordering.{Ordering}
use Rattle.std.specs.declared.cmp.Ordering.TheVariants.{Less, Equal, Greater}
use Rattle.std.specs.Cmp.{IsTotalOrder}
use Rattle.std.specs.List.Sorted.{IsStrictlySortedBy}
use Rattle.std.proofs.lemmas.Cmp.{tied_itself}
use Rattle.std.proofs.lemmas.Map.Keys.{Less-from_sorted}
use Rattle.scp_nominate.specs.InTurn.{InTurn}

module _ {X : Type 0} where
  pub here : (x : X) (xs : List X) → Contains (x ∷ xs) x
  here x xs = (0, omega arith, refl)

  pub behind : (x : X) (xs : List X) (w : X) → Contains xs w → Contains (x ∷ xs) w
  behind x xs w h = (suc h.0, omega (arith, h.1), h.2)

  pub first_or : (x : X) (xs : List X) (w : X) → Contains (x ∷ xs) w → (x ≡ w) ⊎ Contains xs w
  first_or x xs w (zero, lt, e) = inl e
  first_or x xs w (suc k, lt, e) = inr (k, omega arith, e)

  in_none : (w : X) → Contains [] w → ⊥
  in_none w h = absurd (omega (arith, h.1))

-- keys that are alike where they are equal
module _ {X : Type 0} (cmp : X → X → Ordering) (total : IsTotalOrder cmp) (exact : (x y : X) → cmp x y ≡ Equal → x ≡ y) where
  below_rest : (x : X) (xs : List X) → IsStrictlySortedBy cmp (x ∷ xs) → (w : X) → Contains xs w → cmp x w ≡ Less
  below_rest x xs up w h = ap (λ y. cmp x y) (sym h.2) ∙ Less-from_sorted cmp (x ∷ xs) 0 (suc h.0) w up (omega arith) (omega (arith, h.1))

  rest_ascends : (x : X) (xs : List X) → IsStrictlySortedBy cmp (x ∷ xs) → IsStrictlySortedBy cmp xs
  unfolding IsStrictlySortedBy
  rest_ascends x xs up = up.1

  apart : (x y : X) → cmp x y ≡ Less → (x ≡ y) → ⊥
  apart x y lt e = let f : cmp x y ≡ Equal = ap (λ z. cmp x z) (sym e) ∙ tied_itself total x in cc

  turned : (x y : X) → cmp x y ≡ Less → cmp y x ≡ Less → ⊥
  turned x y lt gt = let f : cmp y x ≡ Greater = total.antisymm y x ∙ ap ordering_reverse lt in cc

  one_head : (x y : X) (xs ys : List X) → IsStrictlySortedBy cmp (x ∷ xs) → IsStrictlySortedBy cmp (y ∷ ys) → Contains (y ∷ ys) x → Contains (x ∷ xs) y → x ≡ y
  one_head x y xs ys up also h k = elim (first_or y ys x h) [
    | inl e ↦ sym e
    | inr m ↦ elim (first_or x xs y k) [ inl e ↦ e | inr n ↦ absurd (turned x y (below_rest x xs up y n) (below_rest y ys also x m)) ]
  ]

  in_rest : (x y : X) (xs ys : List X) → IsStrictlySortedBy cmp (x ∷ xs) → x ≡ y → (w : X) → Contains xs w → Contains (y ∷ ys) w → Contains ys w
  in_rest x y xs ys up e w h k = elim (first_or y ys w k) [ inl f ↦ absurd (apart x w (below_rest x xs up w h) (e ∙ f)) | inr m ↦ m ]

  pub one_list : (xs ys : List X) → IsStrictlySortedBy cmp xs → IsStrictlySortedBy cmp ys → ((w : X) → Contains xs w → Contains ys w) → ((w : X) → Contains ys w → Contains xs w) → xs ≡ ys
  one_list [] [] up also into back = refl
  one_list [] (y ∷ ys) up also into back = absurd (in_none y (back y (here y ys)))
  one_list (x ∷ xs) [] up also into back = absurd (in_none x (into x (here x xs)))
  one_list (x ∷ xs) (y ∷ ys) up also into back =
      let e : x ≡ y = one_head x y xs ys up also (into x (here x xs)) (back y (here y ys)) in
      let rest : xs ≡ ys = one_list xs ys (rest_ascends x xs up) (rest_ascends y ys also)
      (λ w h. in_rest x y xs ys up e w h (into w (behind x xs w h)))
      (λ w h. in_rest y x ys xs also (sym e) w h (back w (behind y ys w h))) in
      ap (λ z. z ∷ xs) e ∙ ap (λ zs. y ∷ zs) rest

  by_order : (x y : X) (o : Ordering) → cmp x y ≡ o → (cmp x y ≡ Less) ⊎ (x ≡ y) ⊎ (cmp y x ≡ Less)
  by_order x y Less e = inl e
  by_order x y Equal e = inr (inl (exact x y e))
  by_order x y Greater e = inr (inr (total.antisymm y x ∙ ap ordering_reverse e))

  absent : (x y : X) (ys : List X) → IsStrictlySortedBy cmp (y ∷ ys) → cmp x y ≡ Less → Contains (y ∷ ys) x → ⊥
  absent x y ys up lt h = elim (first_or y ys x h) [ inl e ↦ apart x y lt (sym e) | inr m ↦ turned x y lt (below_rest y ys up x m) ]

-- each in turn
module _ {A S : Type 0} (R : A → S → S → Type 0) where
  abbrev pub IsIdle : A → Type 0
  IsIdle x = (s t : S) → R x s t → t ≡ s

  abbrev pub IsSingle : Type 0
  IsSingle = (x : A) (s t u : S) → R x s t → R x s u → t ≡ u

  pub in_turn_one : IsSingle → (xs : List A) (s t u : S) → InTurn R xs s t → InTurn R xs s u → t ≡ u
  in_turn_one one [] s t u h k = h ∙ sym k
  in_turn_one one (x ∷ xs) s t u h k =
      let e : k.0 ≡ h.0 = one x s k.0 h.0 k.1 h.1 in
      in_turn_one one xs h.0 t u h.2 (subst (λ m. InTurn R xs m u) e k.2)

  idle_turn : (xs : List A) → ((x : A) → Contains xs x → IsIdle x) → (s t : S) → InTurn R xs s t → t ≡ s
  idle_turn [] idle s t h = h
  idle_turn (x ∷ xs) idle s t h = idle_turn xs (λ y m. idle y (behind x xs y m)) h.0 t h.2 ∙ idle x (here x xs) s h.0 h.1

-- Two ascending lists do the same in turn if what only one of them has does nothing.
module _ {A S : Type 0} (cmp : A → A → Ordering) (total : IsTotalOrder cmp) (exact : (x y : A) → cmp x y ≡ Equal → x ≡ y) (R : A → S → S → Type 0) (one : IsSingle R) where
  abbrev IsSpare : List A → List A → Type 0
  IsSpare xs ys = (x : A) → Contains xs x → ¬ (Contains ys x) → IsIdle R x

  spare_behind : (x : A) (xs ys : List A) → IsSpare (x ∷ xs) ys → IsSpare xs ys
  spare_behind x xs ys idle w m out = idle w (behind x xs w m) out

  spare_without : (x : A) (xs ys : List A) → IsSpare ys (x ∷ xs) → ¬ (Contains ys x) → IsSpare ys xs
  spare_without x xs ys idle away w m out =
      idle w m (λ n. elim (first_or x xs w n) [ inl e ↦ away (subst (λ z. Contains ys z) (sym e) m) | inr k ↦ out k ])

  spare_both : (x y : A) (xs ys : List A) → IsStrictlySortedBy cmp (x ∷ xs) → x ≡ y → IsSpare (x ∷ xs) (y ∷ ys) → IsSpare xs ys
  spare_both x y xs ys up e idle w m out = idle w (behind x xs w m) (λ n. out (in_rest cmp total exact x y xs ys up e w m n))

  pub merged : (n : ℕ) (xs ys : List A) → length xs + length ys ≤ n → IsStrictlySortedBy cmp xs → IsStrictlySortedBy cmp ys → IsSpare xs ys → IsSpare ys xs
      → (s t u : S) → InTurn R xs s t → InTurn R ys s u → t ≡ u
  merged n [] ys le up also idle rest s t u h k = h ∙ sym (idle_turn R ys (λ y m. rest y m (λ none. in_none y none)) s u k)
  merged n (x ∷ xs) [] le up also idle rest s t u h k = idle_turn R (x ∷ xs) (λ y m. idle y m (λ none. in_none y none)) s t h ∙ sym k
  merged zero (x ∷ xs) (y ∷ ys) le up also idle rest s t u h k = absurd (omega (arith, le))
  merged (suc n) (x ∷ xs) (y ∷ ys) le up also idle rest s t u h k = elim (by_order cmp total exact x y (cmp x y) refl) [
    | inl lt ↦
        let away = absent cmp total exact x y ys also lt in
        let e : h.0 ≡ s = idle x (here x xs) away s h.0 h.1 in
        merged n xs (y ∷ ys) (omega (arith, le)) (rest_ascends cmp total exact x xs up) also (spare_behind x xs (y ∷ ys) idle) (spare_without x xs (y ∷ ys) rest away) s t u (subst (λ m. InTurn R xs m t) e h.2) k
    | inr (inl same) ↦
        let e : k.0 ≡ h.0 = one x s k.0 h.0 (subst (λ z. R z s k.0) (sym same) k.1) h.1 in
        merged n xs ys (omega (arith, le)) (rest_ascends cmp total exact x xs up) (rest_ascends cmp total exact y ys also) (spare_both x y xs ys up same idle) (spare_both y x ys xs also (sym same) rest) h.0 t u h.2 (subst (λ m. InTurn R ys m u) e k.2)
    | inr (inr gt) ↦
        let away = absent cmp total exact y x xs up gt in
        let e : k.0 ≡ s = rest y (here y ys) away s k.0 k.1 in
        merged n (x ∷ xs) ys (omega (arith, le)) up (rest_ascends cmp total exact y ys also) (spare_without y ys (x ∷ xs) idle away) (spare_behind y ys (x ∷ xs) rest) s t u h (subst (λ m. InTurn R ys m u) e k.2)
  ]
