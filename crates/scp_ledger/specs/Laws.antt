-- What the definitions give together.
use Rattle.std.specs.Prelude.{◌≡◌, ◌++◌, ℕ, List, Option}
use Rattle.scp_slot.specs.scp_types.specs.declared.names.ConnId.{ConnId}
use Rattle.scp_slot.specs.scp_driver.specs.declared.driver.Level.{Level}
use Rattle.scp_pending.specs.declared.ready.Ready.{Ready}
use Rattle.scp_pending.specs.Line.{ready_mark}
use Rattle.scp_ledger.specs.declared.took.Took.{Took}
use Rattle.scp_ledger.specs.Seen.{LedgerView}
use Rattle.scp_ledger.specs.Takes.{Takes}
use Rattle.scp_ledger.specs.Marks.{marks_of}

-- for each connection, the journal grows by what each thing that is taken says of it
abbrev pub JournalStands : {D : Type 0} → (D → ℕ → List ℕ → Level) → (D → ℕ → List ℕ → Option (List ℕ)) → (D → ℕ → List (List ℕ) → List ℕ) → (D → ℕ → ℕ → ℕ → ℕ) → Type 0
JournalStands {D} level extracted combined place = (c : ConnId) (old : LedgerView D) (ready : Ready) (took : Took) (new : LedgerView D) → Takes level extracted combined place old ready took new → marks_of c new.journal ≡ marks_of c old.journal ++ ready_mark c ready
