-- Names in a line, one after another.
-- No public clause reaches this: nothing here need be believed.
use Rattle.std.specs.Prelude.{ℕ, Bool, true, false, List, ◌++◌, codes}

-- a name, after a comma unless it is the first
abbrev pub next_text : Bool → List ℕ → List ℕ
next_text true name = name
next_text false name = codes "," ++ name
