-- The slots for which nodes applied different values, from the decisions that each of them applied (this project's profile).
use Rattle.std.specs.Prelude.{ℕ, ◌+◌, ◌++◌, Bool, false, not, List, [], ◌∷◌, length, map, filter, flat_map, fold, max, option_to_list, if◌then◌else◌}
use Rattle.std.specs.List.{list_any}
use Rattle.std.specs.Cmp.Lexicographic.{pointwise}
use Rattle.std.specs.Prelude.{nat_eq}
use Rattle.scp_line.specs.scp_ledger.specs.declared.journal.Decision.{Decision}
use Rattle.scp_line.specs.scp_apply.specs.Applied.{value_of}
use Rattle.scp_line.specs.scp_script.specs.Nodes.{numbers}
use Rattle.scp_notices.specs.declared.notice.Side.{Side}
use Rattle.scp_notices.specs.declared.notice.Notice.{Notice}
use Rattle.scp_notices.specs.declared.notice.Notice.TheVariants.{Disagree}

-- the two values have the same bytes
abbrev pub same_value : List ℕ → List ℕ → Bool
same_value value other = pointwise nat_eq value other

-- the value that one of the nodes applied for a slot
pub record Choice : Type 0 where
  pub node : ℕ  -- its number, from 1 on
  pub value : List ℕ

-- The choice of the node of this number for a slot, from all decisions that it applied; none if it didn't apply that slot.
abbrev pub choice_at : ℕ → ℕ → List Decision → List Choice
choice_at slot number applied = map (λ value. record { node = number; value = value }) (option_to_list (value_of slot applied))

-- the choices of these nodes for a slot, in the order of their numbers; the first node has this number
abbrev pub choices_from : ℕ → ℕ → List (List Decision) → List Choice
choices_from slot number [] = []
choices_from slot number (applied ∷ nodes) = choice_at slot number applied ++ choices_from slot (number + 1) nodes

-- Two choices have different values: one choice differs from the first.
abbrev pub differ : List Choice → Bool
differ [] = false
differ (choice ∷ choices) = list_any (λ other. not (same_value other.value choice.value)) choices

-- each value once, at its first place
abbrev pub each_once : List (List ℕ) → List (List ℕ)
each_once [] = []
each_once (value ∷ values) = value ∷ filter (λ other. not (same_value other value)) (each_once values)

-- the nodes that chose this value
abbrev pub nodes_with : List ℕ → List Choice → List ℕ
nodes_with value choices = map (λ choice. choice.node) (filter (λ choice. same_value choice.value value) choices)

-- the nodes that chose this value, with the value
abbrev pub side_of : List Choice → List ℕ → Side
side_of choices value = record { nodes = nodes_with value choices; value = value }

-- the nodes grouped by the value that they chose, in the order of the first node of each group
abbrev pub sides_of : List Choice → List Side
sides_of choices = map (side_of choices) (each_once (map (λ choice. choice.value) choices))

-- a notice, if these choices differ
abbrev pub told_of : ℕ → List Choice → List Notice
told_of slot choices = if differ choices then Disagree slot (sides_of choices) ∷ [] else []

-- A notice, if nodes applied different values for the slot. `nodes` has the decisions that each applied, those of node 1 first.
abbrev pub disagreement : List (List Decision) → ℕ → List Notice
disagreement nodes slot = told_of slot (choices_from slot 1 nodes)

-- The number of slots that the node applied that applied most. It applied the slots from 1 to this one.
abbrev pub most_applied : List (List Decision) → ℕ
most_applied nodes = fold (λ most applied. max most (length applied)) 0 nodes

-- a notice for each slot for which nodes applied different values, in the order of the slots
abbrev pub disagreements : List (List Decision) → List Notice
disagreements nodes = flat_map (disagreement nodes) (numbers (most_applied nodes))
