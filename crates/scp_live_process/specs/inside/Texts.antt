-- What calls add to a text.
-- No public clause reaches these definitions: nothing here need be believed.
use Rattle.std.specs.Prelude.{ℕ, ◌≡◌, List, ◌++◌}

-- A text of which `Is` holds was added at the end.
abbrev pub AddsText : List ℕ → List ℕ → (List ℕ → Type 0) → Type 0
AddsText old new Is = (told : List ℕ) × (new ≡ old ++ told) × Is told
