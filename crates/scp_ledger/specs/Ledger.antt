-- What holds of a ledger.
use Rattle.std.specs.Prelude.{ℕ, ◌≤◌, ◌≡◌, false, List, [], Option, Some, None, All, length}
use Rattle.std.specs.Option.{option_map}
use Rattle.scp_slot.specs.scp_types.specs.declared.names.NodeId.{NodeId}
use Rattle.scp_slot.specs.scp_driver.specs.declared.driver.Level.{Level}
use Rattle.scp_slot.specs.scp_quorum.specs.QuorumTree.{QuorumTree}
use Rattle.scp_slot.specs.scp_quorum.specs.QuorumKind.{set_hash}
use Rattle.scp_slot.specs.scp_vote.specs.declared.claim.StatementKind.{StatementKind}
use Rattle.scp_slot.specs.declared.machine.SlotMachine.{SlotMachine}
use Rattle.scp_slot.specs.declared.newest.Heard.{Heard as Kept}
use Rattle.scp_slot.specs.Slot.{SlotView, slot_view, driver_of, IsSound, IsRunning as IsSlotRunning}
use Rattle.scp_ledger.specs.declared.journal.TheConstants.{JOURNAL_LIMIT}
use Rattle.scp_ledger.specs.declared.journal.Fate.{Fate}
use Rattle.scp_ledger.specs.declared.journal.Decision.{Decision}
use Rattle.scp_ledger.specs.Seen.{LedgerView, machine_at}
use Rattle.scp_ledger.specs.Journal.{Heard, newest}
use Rattle.scp_ledger.specs.Decisions.{is_decided, OnePerSlot, IsLowest, AreInWindow, IsFounded, HasItsDecision}
use Rattle.scp_ledger.specs.Verdicts.{HasItsSet, link_of}

-- what holds of a ledger, failed or not
pub record IsLedger {D : Type 0} (v : LedgerView D) : Type 0 where
  -- at most one decision per slot, each in the window where it was made
  pub one : OnePerSlot v.decisions
  pub placed : AreInWindow v.first [] v.decisions
  -- each decision has its certificate over the journal, or the record that named it
  pub founded : All (IsFounded v.me v.local (link_of v.peers) v.asked v.journal) v.decisions
  -- each entry with the verdict Decided has its decision
  pub named : All (HasItsDecision v.decisions) v.journal
  -- each envelope has its set
  pub sets : All HasItsSet v.journal
  pub few : length v.journal ≤ JOURNAL_LIMIT

-- a statement as a machine keeps it, but with its set as a value
abbrev pub heard_of : Kept → Heard
heard_of h = record { statement = h.statement; set = h.set.value }

-- the newest statement that a machine keeps of a kind and node
abbrev pub heard_at : StatementKind → SlotView → NodeId → Option Heard
heard_at kind m v = option_map heard_of (m.newest kind v)

-- The machine of an undecided slot has this node, its set and its driver. Its board has the last fresh statements of that slot. It hasn't decided.
pub record IsMachineOf {D : Type 0} (level : D → ℕ → List ℕ → Level) (place : D → ℕ → ℕ → ℕ → ℕ) (me : NodeId) (local : QuorumTree) (driver : D) (journal : List Fate) (decisions : List Decision) (at : ℕ) (m : SlotMachine D) : Type 0 where
  pub node : (slot_view m).me ≡ me
  pub slot : (slot_view m).slot ≡ at
  pub set : (slot_view m).ballots.board.local ≡ local
  pub hash : (slot_view m).ballots.hash.0 ≡ set_hash local
  pub its_driver : driver_of m ≡ driver
  pub running : IsSlotRunning (slot_view m)
  pub sound : IsSound level place m
  pub undecided : is_decided at decisions ≡ false
  pub board : (kind : StatementKind) (v : NodeId) → heard_at kind (slot_view m) v ≡ newest at kind v journal
  pub silent : (slot_view m).decided ≡ false

-- a slot's machine is as above; an undecided slot without a machine has no fresh statement in the journal
abbrev pub FitsMachine : {D : Type 0} → (D → ℕ → List ℕ → Level) → (D → ℕ → ℕ → ℕ → ℕ) → NodeId → QuorumTree → D → List Fate → List Decision → ℕ → Option (SlotMachine D) → Type 0
FitsMachine level place me local driver journal decisions at None = is_decided at decisions ≡ false → (kind : StatementKind) (v : NodeId) → newest at kind v journal ≡ None
FitsMachine level place me local driver journal decisions at (Some m) = IsMachineOf level place me local driver journal decisions at m

-- each slot's machine, or that it has none, fits the journal and the decisions
abbrev pub HasMachines : {D : Type 0} → (D → ℕ → List ℕ → Level) → (D → ℕ → ℕ → ℕ → ℕ) → LedgerView D → Type 0
HasMachines level place v = (at : ℕ) → FitsMachine level place v.me v.local v.driver v.journal v.decisions at (machine_at v.machines at)

-- what else holds of a ledger that hasn't failed
pub record IsRunning {D : Type 0} (level : D → ℕ → List ℕ → Level) (place : D → ℕ → ℕ → ℕ → ℕ) (v : LedgerView D) : Type 0 where
  pub lowest : IsLowest v.first v.decisions v.lowest
  pub machines : HasMachines level place v
