-- The last of some numbers.
use Rattle.std.proofs.Common.{◌≡◌, ◌∙◌, ℕ, suc, List, [], ◌∷◌, ◌-◌, length, refl, ap, arith}
use Rattle.std.specs.Prelude.{Option, Some, None, slice_get}
use Rattle.scp_ledgers.specs.Report.{last_from}

same_number : {n m : ℕ} → Some n ≡ Some m → n ≡ m
same_number e = cc

-- the last of them is the last of those behind the first
behind : (m k : ℕ) (ks : List ℕ) → slice_get (m ∷ k ∷ ks) (length (m ∷ k ∷ ks) - 1) ≡ slice_get (k ∷ ks) (length (k ∷ ks) - 1)
behind m k ks = let e : length (m ∷ k ∷ ks) - 1 ≡ suc (length (k ∷ ks) - 1) = omega arith in ap (slice_get (m ∷ k ∷ ks)) e

pub last_some : (n : ℕ) (ns : List ℕ) (x : ℕ) → Some x ≡ slice_get ns (length ns - 1) → x ≡ last_from n ns
last_some n [] x e = absurd cc
last_some n (m ∷ []) x e = same_number e
last_some n (m ∷ k ∷ ks) x e = last_some m (k ∷ ks) x (e ∙ behind m k ks)

there_is_one : (m : ℕ) (ms : List ℕ) → None ≡ slice_get (m ∷ ms) (length (m ∷ ms) - 1) → ⊥
there_is_one m [] e = cc
there_is_one m (k ∷ ks) e = there_is_one k ks (e ∙ behind m k ks)

pub last_none : (n : ℕ) (ns : List ℕ) → None ≡ slice_get ns (length ns - 1) → n ≡ last_from n ns
last_none n [] e = refl
last_none n (m ∷ ms) e = absurd (there_is_one m ms e)
