-- What was received of each producer, and of one alone.
use Rattle.std.proofs.Common.{◌≡◌, ℕ, zero, suc, ◌≤◌, ◌==◌, cond, true, false, List, [], ◌∷◌, ◌++◌, sym, refl, ap, ◌∙◌, eq-eqb, arith}
use Rattle.std.proofs.lemmas.List.Elements.{filter-append}
use Rattle.scp_ends.specs.declared.item.Item.{Item}
use Rattle.scp_ends.specs.declared.item.Item.TheVariants.{One, Stop}
use Rattle.scp_ends.specs.Order.{number_of, of, values}
use Rattle.scp_ends.specs.Ends.{heard}

module _ {T : Type 0} where
  -- an item is one of its producer's
  pub of_one : (got items : List (Item T)) (x : Item T) → of (number_of x) (got ++ x ∷ items) ≡ [] → ⊥
  of_one [] items x e = let h : x ∷ of (number_of x) items ≡ [] = ap (λ b. cond b (x ∷ of (number_of x) items) (of (number_of x) items)) (sym (eq-eqb (number_of x) (number_of x) refl)) ∙ e in cc
  of_one (y ∷ got) items x e =
      elim (number_of y == number_of x) as (λ b. cond b (y ∷ of (number_of x) (got ++ x ∷ items)) (of (number_of x) (got ++ x ∷ items)) ≡ [] → ⊥) [
        | true ↦ λ h. cc
        | false ↦ λ h. of_one got items x h
      ] e

  no_first : (xs ys : List (Item T)) → xs ++ ys ≡ [] → xs ≡ []
  no_first [] ys e = refl
  no_first (x ∷ xs) ys e = cc

  -- a number that no item has, no received item has
  pub none_heard : (p : ℕ) (got queue : List (Item T)) → of p (got ++ queue) ≡ [] → of p got ≡ []
  none_heard p got queue e = no_first (of p got) (of p queue) (sym (filter-append (λ x. number_of x == p) got queue) ∙ e)

  none_tail : (p : ℕ) (x : Item T) (xs : List (Item T)) → of p (x ∷ xs) ≡ [] → of p xs ≡ []
  none_tail p x xs e = elim (number_of x == p) as (λ b. cond b (x ∷ of p xs) (of p xs) ≡ [] → of p xs ≡ []) [ true ↦ λ h. cc | false ↦ λ h. h ] e

  -- one producer alone: what was received is what was received of it
  pub heard_all : (got : List (Item T)) → ((p : ℕ) → 1 ≤ p → of p got ≡ []) → heard 0 got ≡ values got
  heard_all [] none = refl
  heard_all (One zero x ∷ xs) none = ap (λ l. x ∷ l) (heard_all xs (λ p le. none_tail p (One zero x) xs (none p le)))
  heard_all (One (suc n) x ∷ xs) none = absurd (of_one [] xs (One (suc n) x) (none (suc n) (omega arith)))
  heard_all (Stop zero ∷ xs) none = heard_all xs (λ p le. none_tail p (Stop zero) xs (none p le))
  heard_all (Stop (suc n) ∷ xs) none = absurd (of_one [] xs (Stop (suc n)) (none (suc n) (omega arith)))
