-- What the state machine of one slot answers to the inputs of a script, as text (this project's profile).
-- No public clause reaches this: nothing here need be believed.
use Rattle.std.specs.Prelude.{ℕ, ◌≡◌, ◌++◌, List}

-- a text with the property P was added
abbrev pub Appends : (List ℕ → Type 0) → List ℕ → List ℕ → Type 0
Appends P old new = (text : List ℕ) × P text × (new ≡ old ++ text)
