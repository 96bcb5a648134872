-- Some of a list, in its order.
use Rattle.std.proofs.Common.{arith, ◌≡◌, ◌⊎◌, inl, inr, suc, List, [], ◌∷◌, ◌++◌, length-append, get_or, sym, subst}
use Rattle.std.specs.Prelude.{All, AllPairs}
use Rattle.std.proofs.lemmas.List.{get_or_append_left}
use Rattle.std.proofs.lemmas.List.Elements.{All-nil, All-cons, All-head, All-tail}
use Rattle.std.proofs.lemmas.List.Kept.{AllPairs-cons}

-- the first are some of the second, in their order
abbrev pub IsPartOf : {X : Type 0} → List X → List X → Type 0
IsPartOf xs [] = xs ≡ []
IsPartOf {X} xs (y ∷ ys) = IsPartOf xs ys ⊎ ((rest : List X) × (xs ≡ y ∷ rest) × IsPartOf rest ys)

pub part_all : {X : Type 0} (P : X → Type 0) (xs ys : List X) → IsPartOf xs ys → All P ys → All P xs
part_all P xs [] none h = subst (All P) (sym none) (All-nil P)
part_all P xs (y ∷ ys) (inl part) h = part_all P xs ys part (All-tail P y ys h)
part_all P xs (y ∷ ys) (inr part) h = subst (All P) (sym part.1) (All-cons P y part.0 (All-head P y ys h) (part_all P part.0 ys part.2 (All-tail P y ys h)))

later_pairs : {X : Type 0} (R : X → X → Type 0) (y : X) (ys : List X) → AllPairs R (y ∷ ys) → AllPairs R ys
later_pairs R y ys h = λ i j d lt below. h (suc i) (suc j) d (omega arith) (omega arith)

first_pairs : {X : Type 0} (R : X → X → Type 0) (y : X) (ys : List X) → AllPairs R (y ∷ ys) → All (R y) ys
first_pairs R y ys h = λ k d below. h 0 (suc k) d (omega arith) (omega arith)

pub part_pairs : {X : Type 0} (R : X → X → Type 0) (xs ys : List X) → IsPartOf xs ys → AllPairs R ys → AllPairs R xs
part_pairs R xs [] none h = subst (AllPairs R) (sym none) (λ i j d lt below. absurd (omega arith))
part_pairs R xs (y ∷ ys) (inl part) h = part_pairs R xs ys part (later_pairs R y ys h)
part_pairs R xs (y ∷ ys) (inr part) h =
    subst (AllPairs R) (sym part.1)
    (AllPairs-cons R y part.0 (part_all (R y) part.0 ys part.2 (first_pairs R y ys h)) (part_pairs R part.0 ys part.2 (later_pairs R y ys h)))

pub front_all : {X : Type 0} (P : X → Type 0) (xs ys : List X) → All P (xs ++ ys) → All P xs
front_all P xs ys h k d below = subst P (get_or_append_left xs ys d k below) (h k d (omega (arith, below, length-append xs ys)))

pub front_pairs : {X : Type 0} (R : X → X → Type 0) (xs ys : List X) → AllPairs R (xs ++ ys) → AllPairs R xs
front_pairs R xs ys h i j d lt below =
    let step : R (get_or (xs ++ ys) i d) (get_or (xs ++ ys) j d) = h i j d lt (omega (arith, below, length-append xs ys)) in
    subst (R (get_or xs i d)) (get_or_append_left xs ys d j below) (subst (λ x. R x (get_or (xs ++ ys) j d)) (get_or_append_left xs ys d i (omega (arith, lt, below))) step)
