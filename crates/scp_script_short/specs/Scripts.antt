-- Whole scripts with shorthand: what each line says, and the lines that it stands for (this project's profile).
use Rattle.std.specs.Prelude.{◌≡◌, ℕ, zero, suc, ◌+◌, ◌*◌, List, [], ◌∷◌, ◌++◌, map, Option, Some, None, Result, Ok, Err, if◌then◌else◌, codes, slice_get, option_map}
use Rattle.std.specs.List.{join_with_byte}
use Rattle.scp_script_text.specs.scp_types.specs.declared.limits.TheConstants.{NODE_LIMIT}
use Rattle.scp_script_text.specs.scp_text.specs.Pieces.{same}
use Rattle.scp_script_text.specs.scp_text.specs.Messages.{words_of}
use Rattle.scp_script_text.specs.Scripts.{lines_of}
use Rattle.scp_script_short.specs.declared.expanded.Expanded.{Expanded}
use Rattle.scp_script_short.specs.declared.placed.PlacedLine.{PlacedLine}
use Rattle.scp_script_text.specs.scp_device.specs.declared.bad.BadLine.{BadLine}
use Rattle.scp_script_text.specs.scp_device.specs.declared.bad.BadWord.{BadWord}
use Rattle.scp_script_short.specs.declared.said.Said.{Said}
use Rattle.scp_script_short.specs.declared.said.Said.TheVariants.{Line, Short, Bad}
use Rattle.scp_script_short.specs.declared.shorthand.Shorthand.{Shorthand}
use Rattle.scp_script_short.specs.declared.shorthand.Shorthand.TheVariants.{OpenAll, Rounds, CatchUp}
use Rattle.scp_script_short.specs.Reading.{number_to, shorthand_in}
use Rattle.scp_script_short.specs.Lines.{lines_of as shorthand_lines}

-- how many nodes the words of a `nodes` line say, from 1 to 8
abbrev pub nodes_said : List (List ℕ) → Option ℕ
nodes_said [] = None
nodes_said (verb ∷ []) = None
nodes_said (verb ∷ count ∷ words) = if same verb (codes "nodes") then number_to NODE_LIMIT count else None

-- what was found, else the next
abbrev pub or_next : Option ℕ → Option ℕ → Option ℕ
or_next (Some number) next = Some number
or_next None next = next

-- how many nodes the lines say: what the first line says that gives a number
abbrev pub nodes_of : List (List ℕ) → Option ℕ
nodes_of [] = None
nodes_of (line ∷ lines) = or_next (nodes_said (words_of line)) (nodes_of lines)

-- what a line says, by the shorthand that its words say
abbrev pub said_by : Result (Option Shorthand) BadWord → List ℕ → Said
said_by (Ok (Some shorthand)) line = Short shorthand
said_by (Ok None) line = Line line
said_by (Err refusal) line = Bad line refusal

-- what a line says in a script of this many nodes; the line itself if no line says how many there are
abbrev pub said : Option ℕ → List ℕ → Said
said (Some nodes) line = said_by (shorthand_in nodes (words_of line)) line
said None line = Line line

-- what each line of a script says
abbrev pub said_in : List ℕ → List Said
said_in script = map (said (nodes_of (lines_of script))) (lines_of script)

-- the lines that a line stands for: those of its shorthand, or the line itself
abbrev pub expansion : Said → List (List ℕ)
expansion (Line line) = line ∷ []
expansion (Short shorthand) = shorthand_lines shorthand
expansion (Bad line refusal) = line ∷ []

-- these lines, each with this place
abbrev pub placed_at : ℕ → List (List ℕ) → List PlacedLine
placed_at place lines = map (λ line. record { place = place; line = line }) lines

-- the lines that each line stands for, in their order; the first of these lines has the place given
abbrev pub placed_from : ℕ → List Said → List PlacedLine
placed_from place [] = []
placed_from place (said ∷ more) = placed_at place (expansion said) ++ placed_from (suc place) more

-- the lines, with a line feed between two
abbrev pub script_of : List PlacedLine → List ℕ
script_of lines = join_with_byte 10 (map (λ placed. placed.line) lines)

-- the number of the line that stands for this line of the expanded script; both are counted from 1 on
abbrev pub place_at : List PlacedLine → ℕ → Option ℕ
place_at lines zero = None
place_at lines (suc index) = option_map (λ placed. placed.place) (slice_get lines index)

-- the first shorthand with a bad word; the first of these lines has the place given
abbrev pub first_bad : ℕ → List Said → Option BadLine
first_bad place [] = None
first_bad place (Line line ∷ more) = first_bad (suc place) more
first_bad place (Short shorthand ∷ more) = first_bad (suc place) more
first_bad place (Bad line refusal ∷ more) = Some (record { line = place; bad = refusal })

-- What a line weighs: for `rounds` the rounds at all nodes together, for `catchup` the slots asked for, for `open all` the square of the
-- number of nodes. Other lines weigh nothing.
abbrev pub weight : Said → ℕ
weight (Line line) = 0
weight (Bad line refusal) = 0
weight (Short (OpenAll nodes)) = nodes * nodes
weight (Short (Rounds nodes slot times)) = nodes * times
weight (Short (CatchUp node peer until)) = until

-- what all lines weigh together
abbrev pub weight_in : List Said → ℕ
weight_in [] = 0
weight_in (said ∷ more) = weight said + weight_in more

-- the expanded script has exactly the lines that each line stands for, each with its place, and the first shorthand that is refused
pub record IsExpanded (script : List ℕ) (expanded : Expanded) : Type 0 where
  pub lines : expanded.lines ≡ placed_from 1 (said_in script)
  pub refused : expanded.refused ≡ first_bad 1 (said_in script)

-- The lines of an expanded script, separated at its line feeds, are exactly those that the script's lines stand for.
abbrev pub LinesStay : Type 0
LinesStay = (script : List ℕ) → lines_of (script_of (placed_from 1 (said_in script))) ≡ map (λ placed. placed.line) (placed_from 1 (said_in script))
