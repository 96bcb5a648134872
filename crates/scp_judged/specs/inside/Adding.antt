-- A place is added where a fact holds.
use Rattle.std.specs.Prelude.{◌≡◌, ◌⊎◌, ◌++◌, ℕ, List, [], ◌∷◌}

-- the fact holds and the place is added, or it doesn't and nothing changes
abbrev pub AddsWhere : Type 0 → List (ℕ × ℕ) → List (ℕ × ℕ) → ℕ × ℕ → Type 0
AddsWhere P old new place = (P × (new ≡ old ++ place ∷ [])) ⊎ ((¬ P) × (new ≡ old))
