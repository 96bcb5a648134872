-- Bytes, cut at a mark.
use Rattle.std.specs.Prelude.{◌≡◌, ◌≢◌, ◌<◌, ◌+◌, ◌++◌, ◌∷◌, ℕ, List, length, take, drop}
use Rattle.std.specs.List.{AllByRecursion}

-- The mark isn't among the bytes.
abbrev pub Without : ℕ → List ℕ → Type 0
Without mark bytes = AllByRecursion (λ k. k ≢ mark) bytes

-- The first mark is at this index.
pub record CutsAt (mark n : ℕ) (bytes : List ℕ) : Type 0 where
  pub within : n < length bytes
  pub front : Without mark (take n bytes)
  pub splits : bytes ≡ take n bytes ++ mark ∷ drop (n + 1) bytes
