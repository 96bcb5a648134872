-- What nodes applied for a slot, as the code has it.
-- No public clause reaches these definitions: nothing here need be believed.
use Rattle.std.specs.Prelude.{Bool, ℕ, List, [], ◌∷◌, map, if◌then◌else◌}
use Rattle.std.specs.List.{list_any}
use Rattle.scp_notices.specs.declared.disagreeing.Choice.{Choice as Seen}
use Rattle.scp_notices.specs.declared.notice.Side.{Side}
use Rattle.scp_notices.specs.Disagreeing.{Choice, same_value, side_of}

-- a choice in the code, as definitions see it
abbrev pub choice_seen : Seen → Choice
choice_seen seen = record { node = seen.node; value = seen.value.now }

-- the values of choices
abbrev pub values_of : List Choice → List (List ℕ)
values_of choices = map (λ choice. choice.value) choices

-- the values of choices in the code
abbrev pub values_seen : List Seen → List (List ℕ)
values_seen choices = values_of (map choice_seen choices)

-- the value is among these
abbrev pub has_value : List ℕ → List (List ℕ) → Bool
has_value value values = list_any (λ other. same_value value other) values

-- the side of a value, unless it is among these
abbrev pub side_behind : List Choice → List (List ℕ) → List ℕ → List Side
side_behind choices before value = if has_value value before then [] else side_of choices value ∷ []
