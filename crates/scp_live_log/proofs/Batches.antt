-- Whether a batch begins in some bytes.
use Rattle.std.proofs.Common.{◌≡◌, ◌≤◌, ◌↔◌, ℕ, List, [], ◌∷◌, ◌++◌, length, drop, ap, arith}
use Rattle.scp_live_log.specs.Log.{HasBatch}

lower : (first : ℕ) (after front rest : List ℕ) → ((r : List ℕ) → first ∷ after ≡ 10 ∷ 43 ∷ r → ⊥) → first ∷ after ≡ front ++ 10 ∷ 43 ∷ rest → HasBatch after
lower first after [] rest none e = absurd (none rest e)
lower first after (x ∷ front) rest none e = record { front = front; rest = rest; splits = let k : after ≡ front ++ 10 ∷ 43 ∷ rest = cc in k }

-- a byte less, where none batch begins at it
pub batch_after : (first : ℕ) (after bytes : List ℕ) → ((r : List ℕ) → first ∷ after ≡ 10 ∷ 43 ∷ r → ⊥) → HasBatch (first ∷ after) ↔ HasBatch bytes → HasBatch after ↔ HasBatch bytes
batch_after first after bytes none same = (
  λ h. same.0 (record { front = first ∷ h.front; rest = h.rest; splits = ap (λ (l : List ℕ). first ∷ l) h.splits }),
  λ h. let k = same.1 h in lower first after k.front k.rest none k.splits,
)

pub batch_drop : (list bytes : List ℕ) → 1 ≤ length list → ((r : List ℕ) → list ≡ 10 ∷ 43 ∷ r → ⊥) → HasBatch list ↔ HasBatch bytes → HasBatch (drop 1 list) ↔ HasBatch bytes
batch_drop [] bytes le none same = absurd (omega (arith, le))
batch_drop (first ∷ after) bytes le none same = batch_after first after bytes none same

pub batch_here : (bytes : List ℕ) → (rest : List ℕ) × (bytes ≡ 10 ∷ 43 ∷ rest) → HasBatch bytes
batch_here bytes h = record { front = []; rest = h.0; splits = h.1 }

not_empty : (front rest : List ℕ) → [] ≡ front ++ 10 ∷ 43 ∷ rest → ⊥
not_empty [] rest e = cc
not_empty (x ∷ front) rest e = cc

pub no_batch_in_nothing : HasBatch [] → ⊥
no_batch_in_nothing h = not_empty h.front h.rest h.splits
