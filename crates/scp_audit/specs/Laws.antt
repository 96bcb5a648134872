-- What follows from the definitions.
use Rattle.std.specs.Prelude.{◌≡◌, ℕ, List, [], ◌∷◌, map}
use Rattle.scp_judged.specs.Verdicts.{heard_of}
use Rattle.scp_judged.specs.declared.messages.Message.{Message}
use Rattle.scp_audit.specs.Audit.{IsArchive}
use Rattle.scp_audit.specs.declared.archive.Archive.{Archive}
use Rattle.scp_audit.specs.declared.archive.Record.{Record}
use Rattle.scp_audit.specs.declared.archive.Record.TheVariants.{Ledger, Unread}

-- the same came of a record: the same ledger, with the same messages and verdicts, of which the same counts; or the same reason
abbrev pub SameRecord : Record → Record → Type 0
SameRecord (Ledger l) (Ledger m) =
    (l.number ≡ m.number)
    × (map (λ (k : Message). k.envelope) l.judged.messages.items ≡ map (λ (k : Message). k.envelope) m.judged.messages.items)
    × (map (λ (k : Message). k.verdict) l.judged.messages.items ≡ map (λ (k : Message). k.verdict) m.judged.messages.items)
    × (map heard_of l.judged.counting.items ≡ map heard_of m.judged.counting.items)
SameRecord (Ledger l) (Unread why) = ⊥
SameRecord (Unread why) (Ledger m) = ⊥
SameRecord (Unread why) (Unread other) = why ≡ other

-- the same came of each record
abbrev pub SameRecords : List Record → List Record → Type 0
SameRecords [] [] = Unit {0}
SameRecords [] (y ∷ ys) = ⊥
SameRecords (x ∷ xs) [] = ⊥
SameRecords (x ∷ xs) (y ∷ ys) = SameRecord x y × SameRecords xs ys

-- bytes have one audit
abbrev pub AuditsAreOne : Type 0
AuditsAreOne = (bytes : List ℕ) (a b : Archive) → IsArchive bytes a → IsArchive bytes b → (a.is_cut ≡ b.is_cut) × SameRecords a.records.items b.records.items
