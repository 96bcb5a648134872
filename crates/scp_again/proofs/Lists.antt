-- Lists one after another, and what they have.
use Rattle.std.proofs.Common.{◌≡◌, ℕ, ◌<◌, Bool, true, false, List, [], ◌∷◌, ◌++◌, length, get_or, refl, ◌∙◌, ap, arith, All, zero, suc}
use Rattle.std.specs.Prelude.{AllPairs, Any, Contains, flat_map, drop, ◌||◌}
use Rattle.std.specs.List.{AllZip}
use Rattle.std.proofs.lemmas.Bool.{eq-eqb}
use Rattle.std.proofs.lemmas.List.Elements.{All-nil, All-cons, All-tail, All-append, All-drop, All-contains_itself}
use Rattle.std.proofs.lemmas.List.Kept.{AllPairs-cons}
use Rattle.scp_core.specs.scp_ledger.specs.declared.journal.Decision.{Decision}
use Rattle.scp_core.specs.scp_ledger.specs.Decisions.{is_at, is_decided}
use Rattle.scp_core.specs.scp_theorem.proofs.Basics.{true_isnt}

-- ---- pairs

pairs_tail : {X : Type 0} (R : X → X → Type 0) (x : X) (xs : List X) → AllPairs R (x ∷ xs) → AllPairs R xs
pairs_tail R x xs h i j d lt below = h (suc i) (suc j) d (omega (arith, lt)) (omega (arith, below))

pairs_head : {X : Type 0} (R : X → X → Type 0) (x : X) (xs : List X) → AllPairs R (x ∷ xs) → All (R x) xs
pairs_head R x xs h k d below = h zero (suc k) d (omega arith) (omega (arith, below))

pub pairs_none : {X : Type 0} (R : X → X → Type 0) → AllPairs R []
pairs_none R i j d lt below = absurd (omega (arith, below))

-- two lists, one after the other
pub pairs_append : {X : Type 0} (R : X → X → Type 0) (xs ys : List X) → AllPairs R xs → AllPairs R ys → All (λ x. All (R x) ys) xs → AllPairs R (xs ++ ys)
pairs_append R [] ys a b c = b
pairs_append R (x ∷ xs) ys a b c =
    AllPairs-cons R x (xs ++ ys)
    (All-append (R x) xs ys (pairs_head R x xs a) (c zero x (omega arith)))
    (pairs_append R xs ys (pairs_tail R x xs a) b (All-tail (λ y. All (R y) ys) x xs c))

pub all_split : {X : Type 0} (P : X → Type 0) (xs ys : List X) → All P (xs ++ ys) → All P xs × All P ys
all_split P [] ys h = (All-nil P, h)
all_split P (x ∷ xs) ys h =
    let rest = all_split P xs ys (All-tail P x (xs ++ ys) h) in
    (All-cons P x xs (h zero x (omega arith)) rest.0, rest.1)

pub pairs_split : {X : Type 0} (R : X → X → Type 0) (xs ys : List X) → AllPairs R (xs ++ ys) → AllPairs R xs × AllPairs R ys × All (λ x. All (R x) ys) xs
pairs_split R [] ys h = (pairs_none R, h, All-nil (λ x. All (R x) ys))
pairs_split R (x ∷ xs) ys h =
    let head = all_split (R x) xs ys (pairs_head R x (xs ++ ys) h) in
    let rest = pairs_split R xs ys (pairs_tail R x (xs ++ ys) h) in
    (AllPairs-cons R x xs head.0 rest.0, rest.1, All-cons (λ y. All (R y) ys) x xs head.1 rest.2)

-- what holds of each of two lists, by what that says of two together
pub all_with : {X : Type 0} (P Q : X → Type 0) (R : X → X → Type 0) (xs ys : List X) → ((x y : X) → P x → Q y → R x y) → All P xs → All Q ys → All (λ x. All (R x) ys) xs
all_with P Q R xs ys f p q i d below j e within = f _ _ (p i d below) (q j e within)

-- ---- lists that are made of lists

pub all_flat : {X Y : Type 0} (P : Y → Type 0) (f : X → List Y) (xs : List X) → All (λ x. All P (f x)) xs → All P (flat_map f xs)
all_flat P f [] h = All-nil P
all_flat P f (x ∷ xs) h = All-append P (f x) (flat_map f xs) (h zero x (omega arith)) (all_flat P f xs (All-tail (λ y. All P (f y)) x xs h))

pub all_one : {X : Type 0} (P : X → Type 0) (x : X) → P x → All P (x ∷ [])
all_one P x p = All-cons P x [] p (All-nil P)

-- what is behind the first ones of a list is in it
pub dropped_is_there : {X : Type 0} (n : ℕ) (xs : List X) → All (Contains xs) (drop n xs)
dropped_is_there n xs = All-drop (Contains xs) n xs (All-contains_itself xs)

pub zip_append : {X Y : Type 0} (R : X → Y → Type 0) (xs : List X) (ys : List Y) (more : List X) (others : List Y) → AllZip R xs ys → AllZip R more others → AllZip R (xs ++ more) (ys ++ others)
zip_append R [] [] more others h k = k
zip_append R [] (y ∷ ys) more others h k = absurd h
zip_append R (x ∷ xs) [] more others h k = absurd h
zip_append R (x ∷ xs) (y ∷ ys) more others h k = (h.0, zip_append R xs ys more others h.1 k)

pub any_is_there : {X : Type 0} (P : X → Type 0) (xs : List X) → Any P xs → (x : X) × Contains xs x × P x
any_is_there P xs h = (h.1, (h.0, h.2, h.3), h.4)

-- ---- decisions

-- a decision that is there is of its slot
pub there_decided : (ds : List Decision) (d : Decision) (n : ℕ) → Contains ds d → d.slot.0 ≡ n → is_decided n ds ≡ true
there_decided ds d n h e = by_place ds h.0 h.1 h.2
  where
    at_it : is_at n d ≡ true
    at_it = eq-eqb d.slot.0 n e

    or_later : (b : Bool) (xs : List Decision) → is_decided n xs ≡ true → (b || is_decided n xs) ≡ true
    or_later true xs k = refl
    or_later false xs k = k

    by_place : (xs : List Decision) (k : ℕ) → k < length xs → get_or xs k d ≡ d → is_decided n xs ≡ true
    by_place [] k below is = absurd (omega (arith, below))
    by_place (x ∷ xs) zero below is = ap (λ (b : Bool). b || is_decided n xs) (ap (λ (y : Decision). is_at n y) is ∙ at_it)
    by_place (x ∷ xs) (suc k) below is = or_later (is_at n x) xs (by_place xs k (omega (arith, below)) is)

-- one more is of another slot
pub still_undecided : (ds : List Decision) (d : Decision) (n : ℕ) → is_decided n ds ≡ false → is_at n d ≡ false → is_decided n (ds ++ d ∷ []) ≡ false
still_undecided [] d n h e = ap (λ (b : Bool). b || false) e
still_undecided (x ∷ ds) d n h e = by_test (is_at n x) (still_undecided ds d n) h
  where
    by_test : (b : Bool) → (is_decided n ds ≡ false → is_at n d ≡ false → is_decided n (ds ++ d ∷ []) ≡ false) → (b || is_decided n ds) ≡ false → (b || is_decided n (ds ++ d ∷ [])) ≡ false
    by_test true rest k = absurd (true_isnt k)
    by_test false rest k = rest k e
