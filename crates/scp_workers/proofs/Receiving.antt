-- What one receive adds.
use Rattle.std.proofs.Common.{◌≡◌, ℕ, ◌==◌, ◌||◌, true, false, List, [], ◌∷◌, ◌++◌, sym, refl, ap, ◌∙◌, subst, eq-eqb}
use Rattle.scp_ends.specs.declared.item.Item.{Item}
use Rattle.scp_ends.specs.declared.item.Item.TheVariants.{One, Stop}
use Rattle.scp_ends.specs.Order.{values}
use Rattle.scp_ends.specs.Ends.{stopped}
use Rattle.scp_ends.proofs.Steps.{values_append, values_stop}

module _ {T : Type 0} where
  pub stopped_here : (p : ℕ) (got : List (Item T)) → stopped p (got ++ Stop p ∷ []) ≡ true
  stopped_here p [] = ap (λ b. b || false) (eq-eqb p p refl)
  stopped_here p (One m y ∷ got) = stopped_here p got
  stopped_here p (Stop m ∷ got) = elim (m == p) as (λ b. (b || stopped p (got ++ Stop p ∷ [])) ≡ true) [ true ↦ refl | false ↦ stopped_here p got ]

  -- what holds of the things that were received, after one item more
  pub one_more : (P : List T → Type 0) (got now : List (Item T)) (n : ℕ) (x : T) → now ≡ got ++ One n x ∷ [] → P (values got ++ x ∷ []) → P (values now)
  one_more P got now n x e h = subst P (sym (ap values e ∙ values_append got (One n x ∷ []))) h

  pub no_more : (P : List T → Type 0) (got now : List (Item T)) (n : ℕ) → now ≡ got ++ Stop n ∷ [] → P (values got) → P (values now)
  no_more P got now n e h = subst P (sym (ap values e ∙ values_stop got n)) h

  pub fits_one : (P : List T → Type 0) (got : List (Item T)) (n : ℕ) (x : T) (item : Item T) → item ≡ One n x → P (values (got ++ item ∷ [])) → P (values got ++ x ∷ [])
  fits_one P got n x item e h = subst P (values_append got (One n x ∷ [])) (subst (λ (i : Item T). P (values (got ++ i ∷ []))) e h)
