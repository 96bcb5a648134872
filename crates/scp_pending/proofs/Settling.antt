-- A place of a list, replaced twice; and each place in turn.
use Rattle.std.proofs.Common.{◌≡◌, ◌<◌, ◌+◌, ◌++◌, Bool, false, ℕ, zero, suc, List, [], ◌∷◌, length, map, take, drop, get_or, set, refl, sym, ◌∙◌, ap, append_assoc}
use Rattle.std.specs.Prelude.{if◌then◌else◌}
use Rattle.std.proofs.lemmas.List.{set-get_or, drop_more, take_more, map-append}
use Rattle.std.proofs.lemmas.List.Edits.{map_over_more}
use Rattle.scp_wire.specs.scp_types.specs.declared.names.Hash.{Hash}
use Rattle.scp_wire.specs.declared.carried.Carried.{Carried}
use Rattle.scp_pending.specs.declared.parked.Parked.{Parked}
use Rattle.scp_pending.specs.declared.parked.Parked.TheVariants.{Waits, Free, Lost}
use Rattle.scp_pending.specs.Queues.{waits_for, resolved_one, is_hash}

pub set_twice : {X : Type 0} (xs : List X) (i : ℕ) (a b : X) → set (set xs i a) i b ≡ set xs i b
set_twice [] i a b = refl
set_twice (x ∷ xs) zero a b = refl
set_twice (x ∷ xs) (suc i) a b = ap (λ ys. x ∷ ys) (set_twice xs i a b)

-- one more that f leaves as it is
pub kept_more : {X : Type 0} (f : X → X) (xs ys : List X) (i : ℕ) (x : X) → i < length xs → ys ≡ map f (take i xs) ++ drop i xs → x ≡ get_or ys i x → f x ≡ x → ys ≡ map f (take (i + 1) xs) ++ drop (i + 1) xs
kept_more f xs ys i x within is at same =
    sym (set-get_or ys i x) ∙ ap (λ y. set ys i y) (sym at ∙ sym same) ∙ map_over_more f xs ys i x within is at

-- what waits for another hash, or for none, stays
pub other_stays : (hash : Hash) (g : Carried → Parked) (p : Parked) → waits_for hash p ≡ false → resolved_one (is_hash hash) g p ≡ p
other_stays hash g (Waits x) e = ap (λ (b : Bool). if b then g x else Waits x) e
other_stays hash g (Free delivery) e = refl
other_stays hash g (Lost x cause) e = refl

-- one more was taken from the front, changed, and put at the end
pub passed_more : {X : Type 0} (f : X → X) (xs : List X) (i : ℕ) (x : X) (rest : List X) → i < length xs → drop i xs ++ map f (take i xs) ≡ x ∷ rest → rest ++ f x ∷ [] ≡ drop (i + 1) xs ++ map f (take (i + 1) xs)
passed_more f xs i x rest within is =
    let y = get_or xs i x in
    let whole : y ∷ (drop (i + 1) xs ++ map f (take i xs)) ≡ x ∷ rest = ap (λ zs. zs ++ map f (take i xs)) (sym (drop_more xs i x within)) ∙ is in
    let same : y ≡ x = cc in
    let others : drop (i + 1) xs ++ map f (take i xs) ≡ rest = cc in
    let one_more : map f (take (i + 1) xs) ≡ map f (take i xs) ++ f x ∷ [] = ap (λ zs. map f zs) (take_more xs i x within) ∙ map-append f (take i xs) (y ∷ []) ∙ ap (λ z. map f (take i xs) ++ f z ∷ []) same in
    ap (λ zs. zs ++ f x ∷ []) (sym others) ∙ append_assoc (drop (i + 1) xs) (map f (take i xs)) (f x ∷ []) ∙ ap (λ zs. drop (i + 1) xs ++ zs) (sym one_more)
