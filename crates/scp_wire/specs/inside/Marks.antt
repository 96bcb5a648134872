-- What a list of things says of one connection: all that belongs to it, and of that the numbers of its messages, and its end.
-- No public clause reaches this definition: nothing here need be believed.
use Rattle.std.specs.Prelude.{ℕ, ◌+◌, ◌≡◌, List, [], ◌∷◌}
use Rattle.scp_wire.specs.Marks.{Mark, number, ended}

-- numbers from n on without a gap, and nothing after an end
abbrev pub Follows : ℕ → List Mark → Type 0
Follows n [] = Unit {0}
Follows n (number seq ∷ rest) = (seq ≡ n) × Follows (n + 1) rest
Follows n (ended cause ∷ rest) = rest ≡ []
