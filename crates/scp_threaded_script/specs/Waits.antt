-- Which lines of a script waited for something that didn't come.
use Rattle.std.specs.Prelude.{ℕ, ◌+◌, ◌≤◌, ◌≡◌, List, [], ◌∷◌, Some, slice_get}
use Rattle.scp_script.specs.declared.command.Command.{Command}
use Rattle.scp_script.specs.declared.command.Command.TheVariants.{Wait}

-- the command at this place, counted from 0, is a `wait` line
abbrev pub IsWaitAt : List Command → ℕ → Type 0
IsWaitAt commands place = (node things : ℕ) × (slice_get commands place ≡ Some (Wait node things))

-- these are places of `wait` lines, ascending, each once, and none before the first place given
abbrev pub AreWaits : List Command → ℕ → List ℕ → Type 0
AreWaits commands from [] = Unit {0}
AreWaits commands from (place ∷ places) = (from ≤ place) × IsWaitAt commands place × AreWaits commands (place + 1) places
