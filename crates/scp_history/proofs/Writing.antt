-- Texts that are written one after another.
use Rattle.std.proofs.Common.{◌≡◌, ◌+◌, ◌<◌, ◌≤◌, ℕ, List, ◌++◌, length, drop, get_or, flat_map, sym, ap, ◌∙◌, append_assoc, append-nil}
use Rattle.std.specs.Prelude.{Result, Ok, Err, OnOk}
use Rattle.std.proofs.lemmas.List.{at_drop_more, at_drop_all}

-- one thing's text is written, and those of the rest are left
pub written_more : {X : Type 0} (f : X → List ℕ) (xs : List X) (i : ℕ) (x : X) (old new all : List ℕ) → i < length xs → x ≡ get_or xs i x → new ≡ old ++ f x → old ++ flat_map f (drop i xs) ≡ all → new ++ flat_map f (drop (i + 1) xs) ≡ all
written_more {X = X} f xs i x old new all lt e wrote so_far =
    let splits : flat_map f (drop i xs) ≡ f x ++ flat_map f (drop (i + 1) xs) = at_drop_more (flat_map f) xs i x lt ∙ ap (λ (y : X). f y ++ flat_map f (drop (i + 1) xs)) (sym e) in
    ap (λ (l : List ℕ). l ++ flat_map f (drop (i + 1) xs)) wrote ∙ append_assoc old (f x) (flat_map f (drop (i + 1) xs)) ∙ ap (λ (l : List ℕ). old ++ l) (sym splits) ∙ so_far

-- nothing is left
pub written_all : {X : Type 0} (f : X → List ℕ) (xs : List X) (i : ℕ) (old all : List ℕ) → length xs ≤ i → old ++ flat_map f (drop i xs) ≡ all → old ≡ all
written_all f xs i old all long so_far = sym (append-nil old) ∙ ap (λ (l : List ℕ). old ++ l) (sym (at_drop_all (flat_map f) xs i long)) ∙ so_far

-- ---- some parts, one after another, of which the last may be refused

pub wrote_two : {X E : Type 0} (r : Result X E) (old mid new a b : List ℕ) → mid ≡ old ++ a → OnOk r (new ≡ mid ++ b) → OnOk r (new ≡ old ++ (a ++ b))
wrote_two (Ok x) old mid new a b p q = q ∙ ap (λ (l : List ℕ). l ++ b) p ∙ append_assoc old a b
wrote_two (Err e) old mid new a b p q = tt

both_parts : (old m1 m2 a b : List ℕ) → m1 ≡ old ++ a → m2 ≡ m1 ++ b → m2 ≡ old ++ (a ++ b)
both_parts old m1 m2 a b p q = q ∙ ap (λ (l : List ℕ). l ++ b) p ∙ append_assoc old a b

pub wrote_three : {X E : Type 0} (r : Result X E) (old m1 m2 new a b c : List ℕ) → m1 ≡ old ++ a → m2 ≡ m1 ++ b → OnOk r (new ≡ m2 ++ c) → OnOk r (new ≡ old ++ (a ++ b ++ c))
wrote_three r old m1 m2 new a b c p q s = wrote_two r old m2 new (a ++ b) c (both_parts old m1 m2 a b p q) s

pub wrote_four : {X E : Type 0} (r : Result X E) (old m1 m2 m3 new a b c d : List ℕ) → m1 ≡ old ++ a → m2 ≡ m1 ++ b → m3 ≡ m2 ++ c → OnOk r (new ≡ m3 ++ d) → OnOk r (new ≡ old ++ (a ++ b ++ c ++ d))
wrote_four r old m1 m2 m3 new a b c d p q s t = wrote_two r old m3 new (a ++ b ++ c) d (both_parts old m2 m3 (a ++ b) c (both_parts old m1 m2 a b p q) s) t
