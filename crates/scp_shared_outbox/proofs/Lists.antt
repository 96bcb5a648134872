-- What the producers put, list by list.
use Rattle.std.proofs.Common.{◌≡◌, ℕ, zero, suc, ◌⊎◌, inl, inr, List, [], ◌∷◌, ◌++◌, length, sym, refl, ap, ◌∙◌, subst, ⊎_elim}
use Rattle.std.specs.Prelude.{Some, slice_get}
use Rattle.atomic_table.specs.Seated.{TableId}
use Rattle.scp_shared_outbox.specs.declared.turn.Turn.{Turn}
use Rattle.scp_shared_outbox.specs.Turns.{put_by}
use Rattle.scp_shared_outbox.specs.Ends.{PutterView, AreOf}
use Rattle.scp_shared_outbox.specs.inside.Passes.{HavePut}

module _ {A : Type 0} where
  pub seam : (xs : List A) (y : A) (ys : List A) → slice_get (xs ++ y ∷ ys) (length xs) ≡ Some y
  seam [] y ys = refl
  seam (x ∷ xs) y ys = seam xs y ys

  last : (xs : List A) (y z : A) (i : ℕ) → slice_get (xs ++ y ∷ []) i ≡ Some z → (slice_get xs i ≡ Some z) ⊎ ((i ≡ length xs) × (y ≡ z))
  last [] y z zero e = inr (refl, cc)
  last [] y z (suc i) e = absurd cc
  last (x ∷ xs) y z zero e = inl e
  last (x ∷ xs) y z (suc i) e = ⊎_elim (λ t. inl t) (λ t. inr (ap suc t.0, t.1)) (last xs y z i e)

-- one producer more
pub have_more : (turns : List Turn) (xs : List PutterView) (x : PutterView) → HavePut turns xs → x.number ≡ length xs → put_by x.number turns ≡ x.put → HavePut turns (xs ++ x ∷ [])
have_more turns xs x have number put i p e = ⊎_elim (λ t. have i p t)
    (λ (t : (i ≡ length xs) × (x ≡ p)). ap (λ k. put_by k turns) (t.0 ∙ sym number) ∙ put ∙ ap (λ (q : PutterView). q.put) t.1)
    (last xs x p i e)

-- a producer's end at its place
pub at_its_place : (desk : TableId) (putters front rest : List PutterView) (x : PutterView) → AreOf desk putters → putters ≡ front ++ x ∷ rest → (x.desk ≡ desk) × (x.number ≡ length front)
at_its_place desk putters front rest x are is = are (length front) x (subst (λ (ps : List PutterView). slice_get ps (length front) ≡ Some x) (sym is) (seam front x rest))
