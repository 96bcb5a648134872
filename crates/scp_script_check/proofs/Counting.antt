-- One number more.
use Rattle.std.proofs.Common.{◌≡◌, ◌+◌, ℕ, suc, Bool, true, false, ◌||◌, [], ◌∷◌, ◌++◌, refl, ◌∙◌, ap, arith}
use Rattle.std.specs.List.{list_any}
use Rattle.std.proofs.lemmas.List.Folds.{list_any-append}
use Rattle.scp_script.specs.Nodes.{numbers}

pub one_more : (i : ℕ) → numbers (i + 1) ≡ numbers i ++ (i + 1) ∷ []
one_more i = let e : i + 1 ≡ suc i = omega arith in rw e refl

or_last : (a b : Bool) → (a || (b || false)) ≡ (a || b)
or_last true b = refl
or_last false true = refl
or_last false false = refl

-- one node more
pub any_more : (p : ℕ → Bool) (i : ℕ) → list_any p (numbers (i + 1)) ≡ (list_any p (numbers i) || p (i + 1))
any_more p i = ap (list_any p) (one_more i) ∙ list_any-append p (numbers i) ((i + 1) ∷ []) ∙ or_last (list_any p (numbers i)) (p (i + 1))
