-- When lists of values are the same.
use Rattle.std.proofs.Common.{◌≡◌, ℕ, Bool, true, false, nat_eq, List, [], ◌∷◌, refl, ap, ◌∙◌}
use Rattle.std.specs.Prelude.{◌↔◌, ◌&&◌}
use Rattle.std.specs.Cmp.Lexicographic.{pointwise, bytes_decides}

and_parts : (a b : Bool) → (a && b) ≡ true → (a ≡ true) × (b ≡ true)
and_parts true b e = (refl, e)
and_parts false b e = absurd cc

and_both : (a b : Bool) → a ≡ true → b ≡ true → (a && b) ≡ true
and_both a b p q = ap (λ (t : Bool). t && b) p ∙ q

pub values_decide : (a b : List (List ℕ)) → (pointwise (pointwise nat_eq) a b ≡ true) ↔ (a ≡ b)
values_decide [] [] = (λ _. refl, λ _. refl)
values_decide [] (y ∷ ys) = (λ e. absurd cc, λ e. absurd cc)
values_decide (x ∷ xs) [] = (λ e. absurd cc, λ e. absurd cc)
values_decide (x ∷ xs) (y ∷ ys) = (
  λ e. (
      let parts = and_parts (pointwise nat_eq x y) (pointwise (pointwise nat_eq) xs ys) e in
      let first : x ≡ y = (bytes_decides x y).0 parts.0 in
      let rest : xs ≡ ys = (values_decide xs ys).0 parts.1 in
      ap (λ (h : List ℕ). h ∷ xs) first ∙ ap (λ (t : List (List ℕ)). y ∷ t) rest),
  λ e. (
      let first : x ≡ y = cc in
      let rest : xs ≡ ys = cc in
      and_both (pointwise nat_eq x y) (pointwise (pointwise nat_eq) xs ys) ((bytes_decides x y).1 first) ((values_decide xs ys).1 rest)),
)
