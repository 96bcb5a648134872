-- Which lines there are of records and messages.
use Rattle.std.specs.Prelude.{ℕ, ◌+◌, Bool, true, false, List, [], ◌∷◌, ◌++◌, length}
use Rattle.scp_audit.specs.scp_envelope.specs.Kinds.{set_hash_of}
use Rattle.scp_audit.specs.scp_judged.specs.declared.messages.Message.{Message as Judged}
use Rattle.scp_audit.specs.scp_judged.specs.declared.verdict.Verdict.{Verdict}
use Rattle.scp_audit.specs.scp_judged.specs.declared.verdict.Verdict.TheVariants.{Counts, OtherSlot, Insane, MissingSet, BadSet, NotNewer}
use Rattle.scp_audit.specs.declared.archive.Archive.{Archive}
use Rattle.scp_audit.specs.declared.archive.Record.{Record}
use Rattle.scp_audit.specs.declared.archive.Record.TheVariants.{Ledger, Unread as Passed}
use Rattle.scp_history.specs.declared.line.Line.{Line}
use Rattle.scp_history.specs.declared.line.Line.TheVariants.{Unread, Cut, Message}
use Rattle.scp_history.specs.declared.line.Place.{Place}

-- the line of a record that isn't read
abbrev pub unread_line : ℕ → ℕ → Record → List Line
unread_line file number (Ledger l) = []
unread_line file number (Passed why) = Unread file number why ∷ []

-- the lines of the records that aren't read, by their numbers from this one on
abbrev pub unread_lines : ℕ → ℕ → List Record → List Line
unread_lines file number [] = []
unread_lines file number (x ∷ xs) = unread_line file number x ++ unread_lines file (number + 1) xs

-- the line of an archive that is cut, if it is
abbrev pub cut_line : ℕ → ℕ → Bool → List Line
cut_line file number true = Cut file number ∷ []
cut_line file number false = []

-- the lines of an archive: its records that aren't read, and where it is cut, the number of the record that it ends within
abbrev pub archive_lines : ℕ → Archive → List Line
archive_lines file a = unread_lines file 1 a.records.items ++ cut_line file (length a.records.items + 1) a.is_cut

-- a line for each verdict but that a message counts
abbrev pub unless_counts : Verdict → Line → List Line
unless_counts Counts line = []
unless_counts OtherSlot line = line ∷ []
unless_counts Insane line = line ∷ []
unless_counts MissingSet line = line ∷ []
unless_counts BadSet line = line ∷ []
unless_counts NotNewer line = line ∷ []

-- the line of a message that doesn't count
abbrev pub message_line : ℕ → Place → Judged → List Line
message_line ledger place m = unless_counts m.verdict (Message ledger place m.verdict (set_hash_of m.envelope.statement.pledges) m.envelope.statement.node)

-- a message of an archive
abbrev pub place_at : ℕ → ℕ → Place
place_at file number = record { file = file; message = number }

-- the lines of a ledger's messages that don't count, by their numbers from this one on
abbrev pub message_lines : ℕ → ℕ → ℕ → List Judged → List Line
message_lines ledger file number [] = []
message_lines ledger file number (m ∷ ms) = message_line ledger (place_at file number) m ++ message_lines ledger file (number + 1) ms
