-- Which messages of a ledger contradict each other, of all its entries.
use Rattle.std.specs.Prelude.{◌≡◌, ◌+◌, ◌++◌, ◌∷◌, [], ℕ, List, map, flat_map}
use Rattle.scp_history.specs.scp_envelope.specs.declared.statement.Statement.{Statement}
use Rattle.scp_history.specs.scp_judged.specs.Contradicts.{Contradict}
use Rattle.scp_history.specs.scp_judged.specs.declared.messages.Message.{Message}
use Rattle.scp_history.specs.Records.{place_at}
use Rattle.scp_history.specs.declared.line.Line.{Line}
use Rattle.scp_history.specs.declared.line.Line.TheVariants.{Contradicts}
use Rattle.scp_history.specs.declared.line.Place.{Place}
use Rattle.scp_shown.specs.Listed.{Picks}
use Rattle.scp_shown.specs.Parts.{Entry}

-- a place and the statement there
abbrev pub Placed : Type 0
Placed = Place × Statement

-- the statements of an archive's messages, by their numbers from this one on
abbrev pub placed_from : ℕ → ℕ → List Message → List Placed
placed_from file number [] = []
placed_from file number (m ∷ ms) = (place_at file number, m.envelope.statement) ∷ placed_from file (number + 1) ms

-- the statements of an entry
abbrev pub placed_in : Entry → List Placed
placed_in e = placed_from e.0 1 e.1.judged.messages.items

-- the statements of all entries, one after another
abbrev pub placed_of : List Entry → List Placed
placed_of es = flat_map placed_in es

-- two statements, the earlier one first
abbrev pub Pair : Type 0
Pair = Placed × Placed

-- a statement with each earlier one
abbrev pub pairs_with : List Placed → Placed → List Pair
pairs_with earlier later = map (λ (p : Placed). (p, later)) earlier

-- each statement with each earlier one, from what is earlier than all of them on
abbrev pub pairs_from : List Placed → List Placed → List Pair
pairs_from earlier [] = []
pairs_from earlier (later ∷ rest) = pairs_with earlier later ++ pairs_from (earlier ++ later ∷ []) rest

-- the two statements contradict each other
abbrev pub DoContradict : Pair → Type 0
DoContradict p = Contradict p.0.1 p.1.1

-- the line of two statements
abbrev pub contradicts_line : ℕ → Pair → Line
contradicts_line ledger p = Contradicts ledger p.1.1.node p.0.0 p.1.0

-- the lines of each two statements that contradict each other, ascending by the later one, and then by the earlier one
pub record AreContradictLines (ledger : ℕ) (placed : List Placed) (lines : List Line) : Type 0 where
  pub pairs : List Pair
  pub contradict : Picks DoContradict (pairs_from [] placed) pairs
  pub all : lines ≡ map (contradicts_line ledger) pairs
