-- Facts on every pass, when one view changes or one is added.
use Rattle.std.proofs.Common.{◌≡◌, ◌≢◌, ℕ, zero, suc, ◌==◌, cond, true, false, ◌⊎◌, inl, inr, List, [], ◌∷◌, ◌++◌, length, set, sym, refl, ap, subst, ⊎_elim, eq-eqb, ne_eqb}
use mathlib.Core.Option.{some, some-injective, some-ne-none}
use lib.ListN.{get_elem?}
use Rattle.atomic_table.proofs.Lists.{at_set}

module _ {A : Type 0} where
  abbrev pub All : (ℕ → A → Type 0) → List A → Type 0
  All F views = (pass : ℕ) (v : A) → get_elem? views pass ≡ some v → F pass v

  pub all_set : (F : ℕ → A → Type 0) (views : List A) (pass : ℕ) (w : A) → F pass w → ((j : ℕ) (u : A) → j ≢ pass → get_elem? views j ≡ some u → F j u) → All F (set views pass w)
  all_set F views pass w mine others j u e = ⊎_elim (λ (x : (j ≡ pass) × (w ≡ u)). subst (λ (y : ℕ × A). F y.0 y.1) (λ i. (sym x.0 i, x.1 i)) mine)
      (λ (x : (j ≢ pass) × (get_elem? views j ≡ some u)). others j u x.0 x.1) (at_set views pass j w u e)

  pub at_end : (l : List A) (a b : A) (j : ℕ) → get_elem? (l ++ a ∷ []) j ≡ some b → (get_elem? l j ≡ some b) ⊎ ((j ≡ length l) × (a ≡ b))
  at_end [] a b zero e = inr (refl, some-injective a b e)
  at_end [] a b (suc j) e = absurd (some-ne-none b (sym e))
  at_end (x ∷ xs) a b zero e = inl e
  at_end (x ∷ xs) a b (suc j) e = ⊎_elim (λ t. inl t) (λ t. inr (ap suc t.0, t.1)) (at_end xs a b j e)

  pub all_snoc : (F : ℕ → A → Type 0) (views : List A) (w : A) → All F views → F (length views) w → All F (views ++ w ∷ [])
  all_snoc F views w old new j u e = ⊎_elim (λ x. old j u x) (λ (x : (j ≡ length views) × (w ≡ u)). subst (λ (y : ℕ × A). F y.0 y.1) (λ i. (sym x.0 i, x.1 i)) new) (at_end views w u j e)

-- f, with a at k
abbrev pub update : (ℕ → ℕ) → ℕ → ℕ → ℕ → ℕ
update f k a p = cond (p == k) a (f p)

pub update_here : (f : ℕ → ℕ) (k a p : ℕ) → p ≡ k → update f k a p ≡ a
update_here f k a p e = ap (λ b. cond b a (f p)) (eq-eqb p k e)

pub update_else : (f : ℕ → ℕ) (k a p : ℕ) → p ≢ k → update f k a p ≡ f p
update_else f k a p n = ap (λ b. cond b a (f p)) (ne_eqb p k n)

pub update_same : (f : ℕ → ℕ) (k a p : ℕ) → f p ≡ a → update f k a p ≡ a
update_same f k a p e = elim (p == k) as (λ b. cond b a (f p) ≡ a) [ true ↦ refl | false ↦ e ]
