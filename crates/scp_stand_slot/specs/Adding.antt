-- What is added to a text.
use Rattle.std.specs.Prelude.{◌≡◌, ℕ, List, ◌++◌}

-- A text of which P holds was added at the end.
abbrev pub Adds : List ℕ → List ℕ → (List ℕ → Type 0) → Type 0
Adds old new P = (text : List ℕ) × (new ≡ old ++ text) × P text
