-- Lines and their ends.
use Rattle.std.proofs.Common.{◌≡◌, ◌+◌, ℕ, List, [], ◌∷◌, ◌++◌, take, drop, refl, subst}
use Rattle.scp_live_head.specs.scp_live_log.specs.Log.{IsLine}

no_line : (front rest : List ℕ) → IsLine (front ++ 10 ∷ rest) → ⊥
no_line [] rest line = line.0 refl
no_line (k ∷ front) rest line = no_line front rest line.1

pub ends : (bytes : List ℕ) (n : ℕ) → bytes ≡ take n bytes ++ 10 ∷ drop (n + 1) bytes → ¬ (IsLine bytes)
ends bytes n splits = λ line. no_line (take n bytes) (drop (n + 1) bytes) (subst IsLine splits line)
