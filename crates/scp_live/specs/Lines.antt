-- A line of a host means one thing.
use Rattle.std.specs.Prelude.{ℕ, ◌≡◌, List, Some, slice_get}
use Rattle.scp_live_lines.specs.declared.asked.Asked.{Asked}
use Rattle.scp_live_lines.specs.Says.{Says}

-- No two links have the same name.
abbrev pub AreNamedApart : List (List ℕ) → Type 0
AreNamedApart names = (l m : ℕ) → (name : List ℕ) → slice_get names l ≡ Some name → slice_get names m ≡ Some name → l ≡ m

-- If no two links have the same name, a line asks for at most one thing.
abbrev pub LinesSayOneThing : Type 0
LinesSayOneThing = (names : List (List ℕ)) → AreNamedApart names → (line : List ℕ) (one other : Asked) → Says names line one → Says names line other → one ≡ other
