-- The verdicts: the first that fits, by the journal, the decisions and the asked links as they were before.
use Rattle.std.specs.Prelude.{ℕ, ◌+◌, ◌<◌, ◌≤◌, ◌≡◌, ◌⊎◌, Bool, true, false, List, Option, IsSomeAnd, option_map, unwrap_or, position, length}
use Rattle.scp_slot.specs.scp_types.specs.declared.limits.TheConstants.{WINDOW}
use Rattle.scp_slot.specs.scp_types.specs.declared.names.ConnId.{ConnId}
use Rattle.scp_slot.specs.scp_types.specs.declared.names.NodeId.{NodeId}
use Rattle.scp_slot.specs.scp_types.specs.declared.names.Slot.{Slot}
use Rattle.scp_slot.specs.scp_driver.specs.declared.driver.Level.{Level}
use Rattle.scp_slot.specs.scp_envelope.specs.declared.statement.Statement.{Statement}
use Rattle.scp_slot.specs.scp_envelope.specs.Newer.{IsNewer}
use Rattle.scp_slot.specs.scp_envelope.specs.Sane.{IsSane}
use Rattle.scp_slot.specs.scp_vote.specs.Board.{kind_of_pledges}
use Rattle.scp_slot.specs.Judged.{HasInvalid}
use Rattle.scp_pending.specs.scp_wire.specs.Connections.{same_node}
use Rattle.scp_pending.specs.scp_wire.specs.Sets.{IsSetOf}
use Rattle.scp_ledger.specs.declared.journal.Fate.{Fate}
use Rattle.scp_ledger.specs.declared.journal.Fate.TheVariants.{Taken, Dropped, Closed}
use Rattle.scp_ledger.specs.declared.journal.Verdict.{Verdict}
use Rattle.scp_ledger.specs.declared.journal.Verdict.TheVariants.{OldSlot, FarSlot, Already, Unasked, Own, BadStatement, BadValue, Stale, Idle, Fresh, Decided}
use Rattle.scp_ledger.specs.declared.journal.Decision.{Decision}
use Rattle.scp_ledger.specs.Seen.{LedgerView, is_asked}
use Rattle.scp_ledger.specs.Journal.{Heard, newest}
use Rattle.scp_ledger.specs.Decisions.{is_decided}

-- this answer where it fits, else what the later ones say
abbrev pub FirstOf : {A : Type 0} → Type 0 → A → (A → Type 0) → A → Type 0
FirstOf fits first later answer = (fits × (answer ≡ first)) ⊎ ((¬ fits) × later answer)

-- beyond the 16 slots from the lowest undecided one on, or above the last slot
abbrev pub IsFar : ℕ → ℕ → Type 0
IsFar lowest slot = (4294967295 < slot) ⊎ (lowest + WINDOW ≤ slot)

-- what is checked before a slot's machine is asked, for envelopes and for commands to a machine
abbrev pub BehindWindow : ℕ → List Decision → ℕ → (Verdict → Type 0) → Verdict → Type 0
BehindWindow lowest decisions slot later =
    FirstOf (slot < lowest) OldSlot
    (FirstOf (IsFar lowest slot) FarSlot
    (FirstOf (is_decided slot decisions ≡ true) Already
    later))

-- there is a last fresh statement, and this one isn't newer
abbrev pub IsStale : Option Heard → Statement → Type 0
IsStale last s = IsSomeAnd last (λ h. ¬ (IsNewer h.statement s))

-- the verdict on a statement of an open slot, by the driver's levels for it and the last fresh statement of its node, slot and kind
abbrev pub IsHeardAs : (List ℕ → Level) → NodeId → Option Heard → Statement → Verdict → Type 0
IsHeardAs level me last s =
    FirstOf (s.node ≡ me) Own
    (FirstOf (¬ (IsSane s.pledges)) BadStatement
    (FirstOf (HasInvalid level s.pledges) BadValue
    (FirstOf (IsStale last s) Stale
    (λ verdict. verdict ≡ Fresh))))

-- the verdict on a statement
abbrev pub IsStatementVerdict : {D : Type 0} → (D → ℕ → List ℕ → Level) → LedgerView D → Statement → Verdict → Type 0
IsStatementVerdict level v s = BehindWindow v.lowest v.decisions s.slot.0 (IsHeardAs (level v.driver s.slot.0) v.me (newest s.slot.0 (kind_of_pledges s.pledges) s.node v.journal) s)

-- what is checked before the asked links are looked up, for records and asks
abbrev pub BehindAlready : ℕ → List Decision → ℕ → (Verdict → Type 0) → Verdict → Type 0
BehindAlready lowest decisions slot later =
    FirstOf ((is_decided slot decisions ≡ true) ⊎ (slot < lowest)) Already
    (FirstOf (IsFar lowest slot) FarSlot
    later)

-- the verdict on a record of a slot, by whether the link that it came over was asked for the slot
abbrev pub IsVerdictOnRecord : ℕ → List Decision → ℕ → Bool → Verdict → Type 0
IsVerdictOnRecord lowest decisions slot asked = BehindAlready lowest decisions slot (FirstOf (asked ≡ false) Unasked (λ verdict. verdict ≡ Decided))

-- the verdict on the command to ask a link for a slot, by whether it was asked for the slot before
abbrev pub IsVerdictOnAsk : ℕ → List Decision → ℕ → Bool → Verdict → Type 0
IsVerdictOnAsk lowest decisions slot asked = BehindAlready lowest decisions slot (FirstOf (asked ≡ true) Idle (λ verdict. verdict ≡ Fresh))

-- the verdict on a record of a slot that came over a link
abbrev pub IsRecordVerdict : {D : Type 0} → LedgerView D → ℕ → Slot → Verdict → Type 0
IsRecordVerdict v link slot = IsVerdictOnRecord v.lowest v.decisions slot.0 (is_asked v.asked (record { link = link; slot = slot }))

-- the verdict on the command to ask a link for a slot
abbrev pub IsAskVerdict : {D : Type 0} → LedgerView D → ℕ → Slot → Verdict → Type 0
IsAskVerdict v link slot = IsVerdictOnAsk v.lowest v.decisions slot.0 (is_asked v.asked (record { link = link; slot = slot }))

-- a slot from the lowest undecided one on, in the window, without a decision
pub record IsOpen (lowest : ℕ) (decisions : List Decision) (slot : ℕ) : Type 0 where
  pub not_old : lowest ≤ slot
  pub not_far : ¬ (IsFar lowest slot)
  pub undecided : is_decided slot decisions ≡ false

-- the link of a connection: the place of its sender among the peers, or the number of peers if it is none of them
abbrev pub link_of : List NodeId → ConnId → ℕ
link_of peers conn = unwrap_or (position (λ peer. same_node peer conn.from) peers) (length peers)

-- a taken envelope has a sane set with the hash that it names; other messages have none
abbrev pub HasItsSet : Fate → Type 0
HasItsSet (Taken conn seq message set verdict) = IsSetOf message (option_map (λ s. s.value) set)
HasItsSet (Dropped conn seq cause) = Unit {0}
HasItsSet (Closed conn cause) = Unit {0}
