-- Whether a node is one of a script's.
use Rattle.std.proofs.Common.{◌≡◌, ◌+◌, ◌-◌, ◌<◌, ℕ, zero, suc, Bool, true, false, ◌||◌, [], ◌∷◌, refl, ◌∙◌, subst, arith, nat_eq}
use Rattle.std.specs.List.{list_any}
use Rattle.std.specs.Cmp.Lexicographic.{pointwise}
use Rattle.std.proofs.lemmas.List.Folds.{list_any-append}
use Rattle.scp_script.specs.scp_types.specs.declared.names.NodeId.{NodeId}
use Rattle.scp_script.specs.Nodes.{numbers, id_of}
use Rattle.scp_script_hints.specs.Hints.{is_known}

or_more : (a b : Bool) → (a || (b || false)) ≡ (a || b)
or_more true b = refl
or_more false true = refl
or_more false false = refl

or_true : (a b : Bool) → a ≡ true → (a || b) ≡ true
or_true true b e = refl
or_true false b e = absurd cc

or_right : (a b : Bool) → b ≡ true → (a || b) ≡ true
or_right true b e = refl
or_right false b e = e

or_neither : (a b : Bool) → a ≡ false → b ≡ false → (a || b) ≡ false
or_neither true b d e = absurd cc
or_neither false b d e = e

-- one number more
any_more : (f : ℕ → Bool) (n : ℕ) → list_any f (numbers (n + 1)) ≡ (list_any f (numbers n) || f (n + 1))
any_more f n =
    let e : n + 1 ≡ suc n = omega arith in
    rw e (list_any-append f (numbers n) (suc n ∷ []) ∙ or_more (list_any f (numbers n)) (f (suc n)))

any_then : (f : ℕ → Bool) (n k : ℕ) → list_any f (numbers n) ≡ true → list_any f (numbers (n + k)) ≡ true
any_then f n zero e = let z : n + 0 ≡ n = omega arith in rw z e
any_then f n (suc k) e =
    let z : n + suc k ≡ (n + k) + 1 = omega arith in
    rw z (any_more f (n + k) ∙ or_true (list_any f (numbers (n + k))) (f ((n + k) + 1)) (any_then f n k e))

any_there : (f : ℕ → Bool) (i count : ℕ) → i < count → f (i + 1) ≡ true → list_any f (numbers count) ≡ true
any_there f i count within e =
    let z : (i + 1) + (count - (i + 1)) ≡ count = omega arith in
    subst (λ (n : ℕ). list_any f (numbers n) ≡ true) z (any_then f (i + 1) (count - (i + 1)) (any_more f i ∙ or_right (list_any f (numbers i)) (f (i + 1)) e))

any_not : (f : ℕ → Bool) (n : ℕ) → list_any f (numbers n) ≡ false → f (n + 1) ≡ false → list_any f (numbers (n + 1)) ≡ false
any_not f n d e = any_more f n ∙ or_neither (list_any f (numbers n)) (f (n + 1)) d e

-- the node of a number within the count is one of so many
pub known_there : (i count : ℕ) (node : NodeId) → i < count → pointwise nat_eq (id_of (i + 1)).0 node.0 ≡ true → is_known count node ≡ true
known_there i count node within e = any_there (λ number. pointwise nat_eq (id_of number).0 node.0) i count within e

-- it is none of so many and one more, where it isn't that one
pub known_not : (n : ℕ) (node : NodeId) → is_known n node ≡ false → pointwise nat_eq (id_of (n + 1)).0 node.0 ≡ false → is_known (n + 1) node ≡ false
known_not n node d e = any_not (λ number. pointwise nat_eq (id_of number).0 node.0) n d e
