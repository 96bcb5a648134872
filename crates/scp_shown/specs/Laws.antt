-- What follows from the definitions.
use Rattle.std.specs.Prelude.{◌≡◌, ℕ, List, [], ◌∷◌, map}
use Rattle.scp_history.specs.scp_judged.specs.declared.messages.Message.{Message}
use Rattle.scp_history.specs.declared.line.Line.{Line}
use Rattle.scp_shown.specs.Parts.{Entry, counting_of}
use Rattle.scp_shown.specs.LedgerLines.{AreLedgerLines}

-- the same entry: of the same archive and ledger, with the same messages and verdicts, and the same counts of it
pub record SameEntry (e f : Entry) : Type 0 where
  pub file : e.0 ≡ f.0
  pub number : e.1.number ≡ f.1.number
  pub messages : map (λ (m : Message). m.envelope) e.1.judged.messages.items ≡ map (λ (m : Message). m.envelope) f.1.judged.messages.items
  pub verdicts : map (λ (m : Message). m.verdict) e.1.judged.messages.items ≡ map (λ (m : Message). m.verdict) f.1.judged.messages.items
  pub counting : counting_of e ≡ counting_of f

-- the same entries
abbrev pub SameEntries : List Entry → List Entry → Type 0
SameEntries [] [] = Unit {0}
SameEntries [] (f ∷ fs) = ⊥
SameEntries (e ∷ es) [] = ⊥
SameEntries (e ∷ es) (f ∷ fs) = SameEntry e f × SameEntries es fs

-- the same entries have the same lines
abbrev pub LinesAreOne : Type 0
LinesAreOne = (ledger : ℕ) (es fs : List Entry) (ls ms : List Line) → SameEntries es fs → AreLedgerLines ledger es ls → AreLedgerLines ledger fs ms → ls ≡ ms
