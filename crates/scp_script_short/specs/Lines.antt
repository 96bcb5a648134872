-- The lines that a shorthand says (this project's profile).
use Rattle.std.specs.Prelude.{ℕ, zero, suc, ◌%◌, not, ◌&&◌, List, [], ◌∷◌, ◌++◌, map, filter, flat_map, if◌then◌else◌, nat_eq, nat_lt, codes}
use Rattle.std.specs.Fmt.{decimal}
use Rattle.scp_script_text.specs.scp_types.specs.declared.limits.TheConstants.{WINDOW}
use Rattle.scp_script_text.specs.scp_types.specs.declared.names.Slot.{Slot}
use Rattle.scp_script_short.specs.declared.shorthand.Shorthand.{Shorthand}
use Rattle.scp_script_short.specs.declared.shorthand.Shorthand.TheVariants.{OpenAll, Rounds, CatchUp}

-- 1, 2, .. up to this count
abbrev pub numbers : ℕ → List ℕ
numbers zero = []
numbers (suc n) = numbers n ++ suc n ∷ []

-- `open I J`
abbrev pub open_line : ℕ → ℕ → List ℕ
open_line node peer = codes "open " ++ decimal node ++ codes " " ++ decimal peer

-- `round I SLOT`
abbrev pub round_line : ℕ → Slot → List ℕ
round_line node slot = codes "round " ++ decimal node ++ codes " " ++ decimal slot.0

-- `ask I J SLOT`
abbrev pub ask_line : ℕ → ℕ → ℕ → List ℕ
ask_line node peer slot = codes "ask " ++ decimal node ++ codes " " ++ decimal peer ++ codes " " ++ decimal slot

-- the lines that open the links from one node to the others of this many nodes, ascending
abbrev pub opens_of : ℕ → ℕ → List (List ℕ)
opens_of nodes node = map (open_line node) (filter (λ peer. not (nat_eq peer node)) (numbers nodes))

-- the lines that open each link, ordered by the node that it goes from
abbrev pub opens : ℕ → List (List ℕ)
opens nodes = flat_map (opens_of nodes) (numbers nodes)

-- one more round of the slot at each node, ascending
abbrev pub round_of_each : ℕ → Slot → List (List ℕ)
round_of_each nodes slot = map (λ node. round_line node slot) (numbers nodes)

-- this many more rounds of the slot at each node
abbrev pub rounds : ℕ → Slot → ℕ → List (List ℕ)
rounds nodes slot times = flat_map (λ time. round_of_each nodes slot) (numbers times)

-- the line that asks for a slot; before it comes `settle` if the slot is one more than a multiple of 16, and not 1
abbrev pub ask_lines : ℕ → ℕ → ℕ → List (List ℕ)
ask_lines node peer slot =
    if nat_lt 1 slot && nat_eq (slot % WINDOW) 1 then codes "settle" ∷ ask_line node peer slot ∷ [] else ask_line node peer slot ∷ []

-- the lines that ask for the slots from 1 to the last
abbrev pub asks : ℕ → ℕ → ℕ → List (List ℕ)
asks node peer until = flat_map (ask_lines node peer) (numbers until)

-- the lines that a shorthand says, in their order
abbrev pub lines_of : Shorthand → List (List ℕ)
lines_of (OpenAll nodes) = opens nodes
lines_of (Rounds nodes slot times) = rounds nodes slot times
lines_of (CatchUp node peer until) = asks node peer until
