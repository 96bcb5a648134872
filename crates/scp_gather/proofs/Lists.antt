-- Places of lists, and what holds of each element.
use Rattle.std.proofs.Common.{◌≡◌, ◌≢◌, ℕ, zero, suc, ◌<◌, inl, inr, ◌⊎◌, List, [], ◌∷◌, ◌++◌, refl, sym, ◌∙◌, ap, subst, arith, length}
use Rattle.std.specs.Prelude.{Some, slice_get}
use Rattle.std.specs.List.{AllByRecursion, AllZip}
use Rattle.std.proofs.lemmas.Option.{slice_get_within}

pub split : (n m : ℕ) → (n < m) ⊎ ((n ≡ m) ⊎ (m < n))
split zero zero = inr (inl refl)
split zero (suc m) = inl (omega arith)
split (suc n) zero = inr (inr (omega arith))
split (suc n) (suc m) = elim (split n m) [ inl h ↦ inl (omega (arith, h)) | inr k ↦ elim k [ inl e ↦ inr (inl (ap suc e)) | inr h ↦ inr (inr (omega (arith, h))) ] ]

module _ {X : Type 0} where
  pub within : (xs : List X) (l : ℕ) (x : X) → slice_get xs l ≡ Some x → l < length xs
  within xs l x e = slice_get_within xs l x e

  pub same_at : (xs : List X) (n l : ℕ) (x y : X) → slice_get xs n ≡ Some x → slice_get xs l ≡ Some y → n ≡ l → x ≡ y
  same_at xs n l x y a b e = some_is x y (sym a ∙ ap (slice_get xs) e ∙ b)
    where
      some_is : (x y : X) → Some x ≡ Some y → x ≡ y
      some_is x y e = cc

  pub other_at : (xs : List X) (l : ℕ) (x : X) → slice_get xs l ≡ Some x → l ≢ length xs
  other_at xs l x at e = let w : l < length xs = within xs l x at in absurd (omega (arith, w, e))

  pub all_map : (P Q : X → Type 0) → ((x : X) → P x → Q x) → (xs : List X) → AllByRecursion P xs → AllByRecursion Q xs
  all_map P Q f [] a = tt
  all_map P Q f (x ∷ xs) a = (f x a.0, all_map P Q f xs a.1)

  -- what holds of each element of a list holds of the one at this place
  pub all_mid : (P : X → Type 0) (all xs ys : List X) (x : X) → all ≡ xs ++ x ∷ ys → AllByRecursion P all → P x
  all_mid P all xs ys x e a = at xs (subst (AllByRecursion P) e a)
    where
      at : (zs : List X) → AllByRecursion P (zs ++ x ∷ ys) → P x
      at [] b = b.0
      at (z ∷ zs) b = at zs b.1

-- ---- two lists, place by place

slice_get-behind : {X : Type 0} (xs : List X) (x : X) (ys : List X) (n : ℕ) → n ≡ length xs → slice_get (xs ++ x ∷ ys) n ≡ Some x
slice_get-behind [] x ys zero e = refl
slice_get-behind [] x ys (suc n) e = absurd (omega (arith, e))
slice_get-behind (z ∷ zs) x ys zero e = absurd (omega (arith, e))
slice_get-behind (z ∷ zs) x ys (suc n) e = slice_get-behind zs x ys n (omega (arith, e))

module _ {A B : Type 0} (R : A → B → Type 0) where
  pub zip_length : (xs : List A) (ys : List B) → AllZip R xs ys → length xs ≡ length ys
  zip_length [] [] a = refl
  zip_length [] (y ∷ ys) a = absurd a
  zip_length (x ∷ xs) [] a = absurd a
  zip_length (x ∷ xs) (y ∷ ys) a = omega (arith, zip_length xs ys a.1)

  pub zip_more : (xs : List A) (ys : List B) (x : A) (y : B) → AllZip R xs ys → R x y → AllZip R (xs ++ x ∷ []) (ys ++ y ∷ [])
  zip_more [] [] x y a r = (r, tt)
  zip_more [] (z ∷ ys) x y a r = absurd a
  zip_more (z ∷ xs) [] x y a r = absurd a
  zip_more (z ∷ xs) (w ∷ ys) x y a r = (a.0, zip_more xs ys x y a.1 r)

  -- where at most one of the lists goes on
  pub zip_at : (xs more : List A) (ys others : List B) → AllZip R xs ys → (more ≡ []) ⊎ (others ≡ []) → (l : ℕ) (x : A) → slice_get (xs ++ more) l ≡ Some x → (y : B) → slice_get (ys ++ others) l ≡ Some y → R x y
  zip_at [] more [] others a end l x e y f = elim end [ inl none ↦ absurd (nothing_there l x (subst (λ zs. slice_get zs l ≡ Some x) none e)) | inr none ↦ absurd (nothing_there l y (subst (λ zs. slice_get zs l ≡ Some y) none f)) ]
    where
      nothing_there : {X : Type 0} (l : ℕ) (x : X) → slice_get {X = X} [] l ≡ Some x → ⊥
      nothing_there l x e = cc
  zip_at [] more (z ∷ ys) others a end l x e y f = absurd a
  zip_at (z ∷ xs) more [] others a end l x e y f = absurd a
  zip_at (z ∷ xs) more (w ∷ ys) others a end zero x e y f = subst (λ v. R v y) (some_is z x e) (subst (R z) (some_is w y f) a.0)
    where
      some_is : {X : Type 0} (x y : X) → Some x ≡ Some y → x ≡ y
      some_is x y e = cc
  zip_at (z ∷ xs) more (w ∷ ys) others a end (suc l) x e y f = zip_at xs more ys others a.1 end l x e y f

  -- the places of the first that isn't paired yet
  pub zip_next : (xs : List A) (x : A) (more : List A) (ys : List B) (y : B) (others : List B) → AllZip R xs ys → (slice_get (xs ++ x ∷ more) (length ys) ≡ Some x) × (slice_get (ys ++ y ∷ others) (length ys) ≡ Some y)
  zip_next xs x more ys y others a = (slice_get-behind xs x more (length ys) (sym (zip_length xs ys a)), slice_get-behind ys y others (length ys) refl)
