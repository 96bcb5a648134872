-- Which nodes speak in a script (this project's profile).
-- No public clause reaches this: nothing here need be believed.
use Rattle.std.specs.Prelude.{ℕ, Bool, false, Option, Some, None, nat_eq}

abbrev pub is_slot : ℕ → Option ℕ → Bool
is_slot slot None = false
is_slot slot (Some other) = nat_eq other slot
