-- What enters the journal with its verdict; nothing here need be believed.
use Rattle.std.specs.Prelude.{◌≡◌, List, [], ◌∷◌, Option, Some, None}
use Rattle.scp_pending.specs.scp_wire.specs.declared.message.Message.TheVariants.{Envelope}
use Rattle.scp_pending.specs.scp_wire.specs.Sets.{IsSetOf}
use Rattle.scp_slot.specs.declared.output.SlotInput.{SlotInput}
use Rattle.scp_slot.specs.declared.output.SlotInput.TheVariants.{Propose, Round, Timer, Envelope as Hear}
use Rattle.scp_ledger.specs.declared.journal.Fate.{Fate}
use Rattle.scp_ledger.specs.declared.journal.Fate.TheVariants.{Taken}
use Rattle.scp_ledger.specs.declared.journal.Verdict.{Verdict}
use Rattle.scp_ledger.specs.declared.state.Entering.{Entering}
use Rattle.scp_ledger.specs.Journal.{fresh_heard}
use Rattle.scp_ledger.specs.Decisions.{decision_by}
use Rattle.scp_ledger.specs.Verdicts.{HasItsSet}

-- the entry of an envelope; a command has none
abbrev pub entries_of : Option Entering → Verdict → List Fate
entries_of None verdict = []
entries_of (Some e) verdict = Taken e.conn e.seq (Envelope e.envelope) (Some e.set) verdict ∷ []

-- an envelope enters with the statement and the set that the machine gets, and the set is the one that it names
abbrev pub Enters : SlotInput → Option Entering → Type 0
Enters (Propose value) entering = entering ≡ None
Enters Round entering = entering ≡ None
Enters Timer entering = entering ≡ None
Enters (Hear envelope set) None = ⊥
Enters (Hear envelope set) (Some e) = (e.envelope.value ≡ envelope) × (e.set.value ≡ set.value) × IsSetOf (Envelope e.envelope) (Some e.set.value)

-- an entry that has no fresh statement and no decision
pub record IsQuiet (fate : Fate) : Type 0 where
  pub stale : fresh_heard fate ≡ None
  pub decides_nothing : decision_by fate ≡ None
  pub its_set : HasItsSet fate
