-- What a line adds to the places of the `wait` lines that gave up.
-- No public clause reaches these definitions: nothing here need be believed.
use Rattle.std.specs.Prelude.{ℕ, ◌≡◌, ◌⊎◌, List, [], ◌∷◌, ◌++◌}
use Rattle.scp_script.specs.declared.command.Command.{Command}
use Rattle.scp_script.specs.declared.command.Command.TheVariants.{Wait}

-- a `wait` line
abbrev pub IsWait : Command → Type 0
IsWait command = (node things : ℕ) × (command ≡ Wait node things)

-- the line adds nothing, or its own place if it is a `wait` line
abbrev pub AddsWait : Command → ℕ → List ℕ → List ℕ → Type 0
AddsWait command place old new = (new ≡ old) ⊎ (IsWait command × (new ≡ old ++ place ∷ []))
