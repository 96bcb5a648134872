-- Elements of lists among the others.
use Rattle.std.proofs.Common.{◌≡◌, ℕ, suc, ◌+◌, ◌<◌, Bool, true, false, cond, List, [], ◌∷◌, ◌++◌, map, filter, take, drop, length, get_or, Option, Some, None, arith, refl, sym, ap, ◌∙◌, drop-cons, inl, inr}
use Rattle.std.specs.List.{slice_get, AllZip}
use Rattle.std.proofs.lemmas.Bool.{cases_Bool}
use Rattle.std.proofs.lemmas.Grind.{common_steps}
use Rattle.std.proofs.lemmas.List.{map-append, take-append-drop}
use Rattle.std.proofs.lemmas.List.Elements.{filter-append}
use Rattle.std.proofs.lemmas.List.Sums.{length-filter, count_by-le-length}
use Rattle.std.proofs.lemmas.Option.{same_Some, none-some}

-- an element stands between those before it and those behind it
pub seam : {X : Type 0} (xs : List X) (i : ℕ) (x : X) → i < length xs → x ≡ get_or xs i x → xs ≡ take i xs ++ x ∷ drop (suc i) xs
seam xs i x lt e =
    let there : drop i xs ≡ x ∷ drop (suc i) xs = drop-cons xs i x lt ∙ ap (λ y. y ∷ drop (suc i) xs) (sym e) in
    sym (take-append-drop i xs) ∙ ap (λ ys. take i xs ++ ys) there

-- ---- all are given something

pub none_inside : {B : Type 0} (front back : List (Option B)) (ys : List B) → front ++ None ∷ back ≡ map Some ys → ⊥
none_inside [] back [] e = absurd (omega (arith, ap length e))
none_inside [] back (y ∷ ys) e = none-some y (sym (same_Some (Some y) None (sym (ap (λ l. slice_get l 0) e))))
none_inside (o ∷ front) back [] e = absurd (omega (arith, ap length e))
none_inside (o ∷ front) back (y ∷ ys) e = none_inside front back ys (ap (drop 1) e)

-- one is given nothing
pub not_given : {A B : Type 0} (f : A → Option B) (xs front back : List A) (x : A) (ys : List B) → xs ≡ front ++ x ∷ back → f x ≡ None → map f xs ≡ map Some ys → ⊥
not_given f xs front back x ys is none given =
    none_inside (map f front) (map f back) ys
    (ap (λ o. map f front ++ o ∷ map f back) (sym none) ∙ sym (map-append f front (x ∷ back)) ∙ sym (ap (map f) is) ∙ given)

-- those that are given first
pub given_first : {B : Type 0} (ys xs : List B) (y : B) (back : List (Option B)) → map Some ys ≡ map Some xs ++ Some y ∷ back → (rest : List B) × (ys ≡ xs ++ y ∷ rest)
given_first [] [] y back e = absurd (omega (arith, ap length e))
given_first [] (x ∷ xs) y back e = absurd (omega (arith, ap length e))
given_first (z ∷ ys) [] y back e =
    let here : z ≡ y = same_Some z y (same_Some (Some z) (Some y) (ap (λ l. slice_get l 0) e)) in
    (ys, ap (λ v. v ∷ ys) here)
given_first (z ∷ ys) (x ∷ xs) y back e =
    let here : z ≡ x = same_Some z x (same_Some (Some z) (Some x) (ap (λ l. slice_get l 0) e)) in
    let later = given_first ys xs y back (ap (drop 1) e) in
    let rest : ys ≡ xs ++ y ∷ later.0 = later.1 in
    (later.0, cc)

pub same_given : {B : Type 0} (xs ys : List B) → map Some xs ≡ map Some ys → xs ≡ ys
same_given [] [] e = refl
same_given [] (y ∷ ys) e = absurd (omega (arith, ap length e))
same_given (x ∷ xs) [] e = absurd (omega (arith, ap length e))
same_given (x ∷ xs) (y ∷ ys) e =
    let h : x ≡ y = same_Some x y (same_Some (Some x) (Some y) (ap (λ l. slice_get l 0) e)) in
    let t : xs ≡ ys = same_given xs ys (ap (drop 1) e) in
    cc

-- one more is given
pub given_more : {A B : Type 0} (f : A → Option B) (xs : List A) (x : A) (ys : List B) (y : B) → map f xs ≡ map Some ys → f x ≡ Some y → map f (xs ++ x ∷ []) ≡ map Some (ys ++ y ∷ [])
given_more f xs x ys y before here =
    map-append f xs (x ∷ []) ∙ ap (λ l. l ++ f x ∷ []) before ∙ ap (λ o. map Some ys ++ o ∷ []) here ∙ sym (map-append Some ys (y ∷ []))

-- ---- a filter that keeps all

pub filter_lacks : {X : Type 0} (p : X → Bool) (front back : List X) (x : X) → p x ≡ false → filter p (front ++ x ∷ back) ≡ front ++ x ∷ back → ⊥
filter_lacks p front back x fails e =
    let split : filter p (front ++ x ∷ back) ≡ filter p front ++ filter p back = filter-append p front (x ∷ back) ∙ ap (λ b. filter p front ++ cond b (x ∷ filter p back) (filter p back)) fails in
    let few = count_by-le-length p front in
    let few_behind = count_by-le-length p back in
    let front_len = length-filter p front in
    let back_len = length-filter p back in
    let same : length (filter p front ++ filter p back) ≡ length (front ++ x ∷ back) = ap length (sym split ∙ e) in
    grind (arith, common_steps)

pub filter_keeps : {X : Type 0} (p : X → Bool) (xs : List X) (x : X) → filter p xs ≡ xs → p x ≡ true → filter p (xs ++ x ∷ []) ≡ xs ++ x ∷ []
filter_keeps p xs x all here =
    filter-append p xs (x ∷ []) ∙ ap (λ l. l ++ cond (p x) (x ∷ []) []) all ∙ ap (λ b. xs ++ cond b (x ∷ []) []) here

pub filter_whole : {X : Type 0} (p : X → Bool) (xs : List X) → length (filter p xs) ≡ length xs → filter p xs ≡ xs
filter_whole p [] e = refl
filter_whole p (x ∷ xs) e =
    elim (cases_Bool (p x)) [
      | inl is ↦ (
          let rest : length (x ∷ filter p xs) ≡ length (x ∷ xs) = sym (ap (λ t. length (cond t (x ∷ filter p xs) (filter p xs))) is) ∙ e in
          ap (λ t. cond t (x ∷ filter p xs) (filter p xs)) is ∙ ap (λ l. x ∷ l) (filter_whole p xs (omega (arith, rest))))
      | inr is ↦ (
          let rest : length (filter p xs) ≡ length (x ∷ xs) = sym (ap (λ t. length (cond t (x ∷ filter p xs) (filter p xs))) is) ∙ e in
          absurd (omega (arith, rest, length-filter p xs, count_by-le-length p xs)))
    ]

-- ---- pairs of elements

pub zip_lacks : {A B : Type 0} (R : A → B → Type 0) (front back : List A) (x : A) (ys : List B) → ((y : B) → R x y → ⊥) → AllZip R (front ++ x ∷ back) ys → ⊥
zip_lacks R [] back x [] never zip = zip
zip_lacks R [] back x (y ∷ ys) never zip = never y zip.0
zip_lacks R (a ∷ front) back x [] never zip = zip
zip_lacks R (a ∷ front) back x (y ∷ ys) never zip = zip_lacks R front back x ys never zip.1

pub zip_push : {A B : Type 0} (R : A → B → Type 0) (xs : List A) (ys : List B) (x : A) (y : B) → AllZip R xs ys → R x y → AllZip R (xs ++ x ∷ []) (ys ++ y ∷ [])
zip_push R [] [] x y zip here = (here, tt)
zip_push R [] (b ∷ ys) x y zip here = absurd zip
zip_push R (a ∷ xs) [] x y zip here = absurd zip
zip_push R (a ∷ xs) (b ∷ ys) x y zip here = (zip.0, zip_push R xs ys x y zip.1 here)
