-- The places with which a list grew, one after the other.
use Rattle.std.proofs.Common.{◌≡◌, ◌<◌, ◌≤◌, ◌+◌, ◌-◌, ◌∙◌, ℕ, zero, suc, List, [], ◌∷◌, ◌++◌, map, refl, sym, ap, arith, append_assoc}
use Rattle.std.proofs.lemmas.List.{append-nil}
use Rattle.scp_facts.specs.Facts.{numbers_from, places}

-- the first of them, and the others
places_more : (i n : ℕ) → i < n → places i n ≡ i ∷ places (i + 1) n
places_more i n within = ap (λ k. numbers_from i k) (let e : n - i ≡ suc (n - (i + 1)) = omega (arith, within) in e)

-- none is left
places_none : (i n : ℕ) → n ≤ i → places i n ≡ []
places_none i n over = ap (λ k. numbers_from i k) (let e : n - i ≡ 0 = omega (arith, over) in e)

-- with what is left it is all, before one more and behind it
pub one_more : {X : Type 0} (f : ℕ → X) (old new all : List X) (i n : ℕ) → i < n → new ≡ old ++ f i ∷ [] → old ++ map f (places i n) ≡ all → new ++ map f (places (i + 1) n) ≡ all
one_more {X} f old new all i n within adds so =
    ap (λ l. l ++ map f (places (i + 1) n)) adds
    ∙ append_assoc old (f i ∷ []) (map f (places (i + 1) n))
    ∙ ap (λ l. old ++ l) (sym (ap (map f) (places_more i n within)))
    ∙ so

-- nothing is left
pub no_more : {X : Type 0} (f : ℕ → X) (now all : List X) (i n : ℕ) → n ≤ i → now ++ map f (places i n) ≡ all → now ≡ all
no_more {X} f now all i n over so = sym (append-nil now) ∙ sym (ap (λ l. now ++ map f l) (places_none i n over)) ∙ so
