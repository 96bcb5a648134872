-- The lines of a ledger.
use Rattle.std.specs.Prelude.{◌≡◌, ◌++◌, ℕ, List, [], flat_map}
use Rattle.scp_history.specs.scp_types.specs.declared.names.NodeId.{NodeId}
use Rattle.scp_history.specs.scp_ledger.specs.Journal.{Heard}
use Rattle.scp_history.specs.Records.{message_lines}
use Rattle.scp_history.specs.declared.line.Line.{Line}
use Rattle.scp_history.specs.declared.side.Side.{Side}
use Rattle.scp_shown.specs.Listed.{AddsEach}
use Rattle.scp_shown.specs.Parts.{Entry, all_counting}
use Rattle.scp_shown.specs.Joined.{Joins}
use Rattle.scp_shown.specs.Spoken.{nodes_heard, values_heard}
use Rattle.scp_shown.specs.ValueLines.{AreValueLines}
use Rattle.scp_shown.specs.Sides.{IsSide, side_lines}
use Rattle.scp_shown.specs.Silent.{AreSilentLines}
use Rattle.scp_shown.specs.Contradictions.{placed_of, AreContradictLines}

-- the lines of an entry's messages that don't count
abbrev pub entry_lines : Entry → List Line
entry_lines e = message_lines e.1.number e.0 1 e.1.judged.messages.items

-- The lines of what is heard of these nodes: those of each value, ascending; then the split of those that are certified, or who is against the only one.
pub record AreHeardLines (ledger : ℕ) (hs : List Heard) (nodes : List NodeId) (lines : List Line) : Type 0 where
  pub of_values : List Line
  pub sides : List Side
  pub values : AddsEach (AreValueLines ledger hs nodes) (values_heard hs nodes) of_values
  pub certified : AddsEach (IsSide hs nodes) (values_heard hs nodes) sides
  pub all : lines ≡ of_values ++ side_lines ledger hs nodes sides

-- The lines of a ledger with these entries: those of what is heard; of each message that doesn't count; of the silent nodes; of each two messages that
-- contradict each other.
pub record AreLedgerLines (ledger : ℕ) (entries : List Entry) (lines : List Line) : Type 0 where
  pub heard : List Heard
  pub of_heard : List Line
  pub of_silent : List Line
  pub of_pairs : List Line
  pub joined : Joins [] (all_counting entries) heard
  pub shown : AreHeardLines ledger heard (nodes_heard heard) of_heard
  pub silent : AreSilentLines ledger heard (nodes_heard heard) of_silent
  pub contradictions : AreContradictLines ledger (placed_of entries) of_pairs
  pub all : lines ≡ ((of_heard ++ flat_map entry_lines entries) ++ of_silent) ++ of_pairs
