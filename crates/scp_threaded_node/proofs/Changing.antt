-- One element of a list is changed.
use Rattle.std.proofs.Common.{◌≡◌, ◌≢◌, ◌∙◌, ℕ, zero, suc, ap, sym, refl, subst, List, [], ◌∷◌, Some, ⊎_elim}
use Rattle.std.specs.Prelude.{slice_get, slice_set}
use Rattle.std.proofs.lemmas.Bool.{cases_eq}
use Rattle.std.proofs.lemmas.Option.{same_Some}
use Rattle.scp_threaded_node.specs.Seats.{Each}
use Rattle.scp_gather.specs.scp_shared_outbox.proofs.ListsOfAll.{set_other}

module _ {T : Type 0} where
  pub set_here : (xs : List T) (i : ℕ) (x y : T) → slice_get xs i ≡ Some x → slice_get (slice_set xs i y) i ≡ Some y
  set_here [] i x y h = absurd cc
  set_here (z ∷ xs) zero x y h = refl
  set_here (z ∷ xs) (suc i) x y h = set_here xs i x y h

  -- what held of each and its place holds again
  pub each_set : (P Q : ℕ → T → Type 0) (xs : List T) (place : ℕ) (x y : T) → slice_get xs place ≡ Some x → (P place x → Q place y) → ((i : ℕ) (z : T) → i ≢ place → P i z → Q i z) → Each P xs → Each Q (slice_set xs place y)
  each_set P Q xs place x y was here other all i z h = ⊎_elim
      (λ e. let at : slice_get (slice_set xs place y) place ≡ Some z = ap (slice_get (slice_set xs place y)) (sym e) ∙ h in subst (λ n. Q n z) (sym e) (subst (Q place) (same_Some y z (sym (set_here xs place x y was) ∙ at)) (here (all place x was))))
      (λ apart. other i z apart (all i z (sym (set_other xs place i y apart) ∙ h)))
      (cases_eq i place)

  pub set_same : (xs : List T) (i : ℕ) (x : T) → slice_get xs i ≡ Some x → slice_set xs i x ≡ xs
  set_same [] i x e = refl
  set_same (y ∷ ys) zero x e = ap (λ (z : T). z ∷ ys) (sym (same_Some y x e))
  set_same (y ∷ ys) (suc i) x e = ap (λ (zs : List T). y ∷ zs) (set_same ys i x e)
