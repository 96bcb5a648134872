-- How many sides there are.
use Rattle.std.specs.Prelude.{Bool, true, false, List, [], ◌∷◌}
use Rattle.scp_history.specs.declared.side.Side.{Side}

-- there are several sides
abbrev pub has_two : List Side → Bool
has_two [] = false
has_two (s ∷ []) = false
has_two (s ∷ t ∷ rest) = true
