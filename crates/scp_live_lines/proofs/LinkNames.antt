-- The names of links, in their order.
use Rattle.std.proofs.Common.{◌≡◌, ◌<◌, ℕ, true, false, List, [], map, length, get_or, sym, ◌∙◌, ap, nat_eq}
use Rattle.std.specs.Cmp.Lexicographic.{pointwise, bytes_decides}
use Rattle.std.proofs.lemmas.List.{get_or-map}

-- the name that is looked at is that of the link of this number
pub named : {S : Type 0} (f : S → List ℕ) (names : List S) (i : ℕ) (d : S) (text : List ℕ) → i < length names → d ≡ get_or names i d → text ≡ f d → text ≡ get_or (map f names) i []
named f names i d text lt at e = e ∙ ap f at ∙ sym (get_or-map f names i d [] lt)

pub told_same : (text word : List ℕ) → true ≡ pointwise nat_eq text word → text ≡ word
told_same text word e = (bytes_decides text word).0 (sym e)

pub told_apart : (text word : List ℕ) → false ≡ pointwise nat_eq text word → text ≡ word → ⊥
told_apart text word e h = let same : pointwise nat_eq text word ≡ true = (bytes_decides text word).1 h in cc
