-- What holds of the slot stage: of what it took, of what it gave, and of its ledger.
use Rattle.std.specs.Prelude.{◌≡◌, ℕ, true, false, List, [], ◌∷◌, ◌++◌, Option, Any, Contains, IfSome, map, flat_map, option_map, option_to_list}
use Rattle.scp_slot.specs.scp_types.specs.declared.names.ConnId.{ConnId}
use Rattle.scp_slot.specs.scp_types.specs.declared.names.NodeId.{NodeId}
use Rattle.scp_slot.specs.scp_types.specs.declared.names.Seq.{Seq}
use Rattle.scp_slot.specs.scp_quorum.specs.QuorumTree.{QuorumTree}
use Rattle.scp_slot.specs.scp_driver.specs.declared.driver.Level.{Level}
use Rattle.scp_pending.specs.scp_wire.specs.declared.message.Message.{Message}
use Rattle.scp_pending.specs.scp_wire.specs.declared.message.Message.TheVariants.{GetRecord}
use Rattle.scp_pending.specs.scp_wire.specs.declared.link.Cause.{Cause}
use Rattle.scp_pending.specs.scp_wire.specs.declared.link.Command.TheVariants.{Ask}
use Rattle.scp_pending.specs.declared.ready.DropCause.{DropCause}
use Rattle.scp_pending.specs.declared.ready.Ready.{Ready}
use Rattle.scp_pending.specs.declared.ready.Ready.TheVariants as ready
use Rattle.scp_pending.specs.Endings.{commands_of}
use Rattle.scp_pending.specs.Passes.{Passes}
use Rattle.scp_ledger.specs.declared.journal.Asking.{Asking}
use Rattle.scp_ledger.specs.declared.journal.Fate.{Fate}
use Rattle.scp_ledger.specs.declared.journal.Fate.TheVariants.{Taken, Dropped, Closed}
use Rattle.scp_ledger.specs.declared.took.Onward.{Onward}
use Rattle.scp_ledger.specs.declared.took.Onward.TheVariants.{Asked}
use Rattle.scp_ledger.specs.declared.took.Outgoing.{Outgoing}
use Rattle.scp_ledger.specs.declared.took.Outgoing.TheVariants.{ToAll, To}
use Rattle.scp_ledger.specs.declared.took.Took.{Took}
use Rattle.scp_ledger.specs.Ledger.{IsLedger, IsRunning as LedgerRuns}
use Rattle.scp_ledger.specs.Onwards.{decisions_on, requests_on, MaySend, KeepsWindow}
use Rattle.scp_ledger.specs.Runs.{Taking, things, onwards_of, nothing_taken, IsRun}
use Rattle.scp_ledger.specs.Seen.{LedgerView, is_asked}
use Rattle.scp_ledger.specs.Takes.{Takes}
use Rattle.scp_ledger.specs.Verdicts.{link_of}

-- an entry without its verdict
pub data Entry : Type 0 where
  taken : ConnId → Seq → Message → Option QuorumTree → Entry
  dropped : ConnId → Seq → DropCause → Entry
  closed : ConnId → Cause → Entry

-- an entry without its verdict
abbrev pub entry_in : Fate → Entry
entry_in (Taken conn seq message set verdict) = taken conn seq message (option_map (λ s. s.value) set)
entry_in (Dropped conn seq cause) = dropped conn seq cause
entry_in (Closed conn cause) = closed conn cause

-- the entry of a ready thing; a command has none
abbrev pub entry_of : Ready → List Entry
entry_of (ready.Deliver d) = taken d.conn d.seq d.message d.set ∷ []
entry_of (ready.Dropped conn seq cause) = dropped conn seq cause ∷ []
entry_of (ready.Closed conn cause) = closed conn cause ∷ []
entry_of (ready.Local command) = []

-- the request for a record that an entry passes on, with the link that it came over
abbrev pub request_by : List NodeId → Fate → List Onward
request_by peers (Taken conn seq (GetRecord slot) set verdict) = Asked (link_of peers conn) slot ∷ []
request_by peers fate = []

-- The slot stage has one entry for each thing that it took, except commands. It gave each decision once and each request for a record once,
-- in order. It asked a link for a slot only where a command said so. What each thing gave, and the verdict on it, is that of a run.
pub record Journals {D : Type 0} (level : D → ℕ → List ℕ → Level) (extracted : D → ℕ → List ℕ → Option (List ℕ)) (combined : D → ℕ → List (List ℕ) → List ℕ) (place : D → ℕ → ℕ → ℕ → ℕ) (me : NodeId) (local : QuorumTree) (peers : List NodeId) (took : List Ready) (onwards : List Onward) (v : LedgerView D) : Type 0 where
  pub runs : v.failed ≡ false
  pub me_is : v.me ≡ me
  pub local_is : v.local ≡ local
  pub peers_are : v.peers ≡ peers
  pub entries : map entry_in v.journal ≡ flat_map entry_of took
  pub decided : decisions_on onwards ≡ v.decisions
  pub requests : requests_on onwards ≡ flat_map (request_by peers) v.journal
  pub asked : (a : Asking) → is_asked v.asked a ≡ true → Contains (commands_of took) (Ask a.link a.slot)
  pub takes : List Taking
  pub took_are : things takes ≡ took
  pub onwards_are : onwards_of takes ≡ onwards
  pub run : IsRun level extracted combined place me local peers takes v
  pub known : IsLedger v
  pub running : LedgerRuns level place v

-- what goes out is an envelope to every peer
abbrev pub IsToAll : Outgoing → Type 0
IsToAll (ToAll envelope) = Unit {0}
IsToAll (To link message) = ⊥

-- Taking a thing doesn't make a ledger fail. Its first slot stays. Its journal and its decisions grow at their ends, the decisions by what
-- goes on. A thing that gives own statements asks no link for a slot.
pub record Grows {D : Type 0} (old : LedgerView D) (t : Took) (new : LedgerView D) : Type 0 where
  pub runs : new.failed ≡ old.failed
  pub first : new.first ≡ old.first
  pub fates : List Fate
  pub journal : new.journal ≡ old.journal ++ fates
  pub decisions : new.decisions ≡ old.decisions ++ decisions_on (option_to_list t.onward)
  pub asked : Any IsToAll t.outgoing → new.asked ≡ old.asked

-- each take is as `Grows` says
abbrev pub TakesGrow : {D : Type 0} → (D → ℕ → List ℕ → Level) → (D → ℕ → List ℕ → Option (List ℕ)) → (D → ℕ → List (List ℕ) → List ℕ) → (D → ℕ → ℕ → ℕ → ℕ) → Type 0
TakesGrow {D} level extracted combined place = (old : LedgerView D) (x : Ready) (t : Took) (new : LedgerView D) → Takes level extracted combined place old x t new → Grows old t new

-- `Journals` holds of a ledger that took nothing, and it holds with one thing more
pub record JournalsPass {D : Type 0} (level : D → ℕ → List ℕ → Level) (extracted : D → ℕ → List ℕ → Option (List ℕ)) (combined : D → ℕ → List (List ℕ) → List ℕ) (place : D → ℕ → ℕ → ℕ → ℕ) : Type 0 where
  pub begins : (me : NodeId) (local : QuorumTree) (peers : List NodeId) (v : LedgerView D) → v ≡ nothing_taken me local v.driver peers v.first → IsLedger v → LedgerRuns level place v → Journals level extracted combined place me local peers [] [] v
  pub passes : (me : NodeId) (local : QuorumTree) (peers : List NodeId) (old : LedgerView D) (x : Ready) (t : Took) (new : LedgerView D) → Takes level extracted combined place old x t new → IsLedger new → (new.failed ≡ false → LedgerRuns level place new) → Passes (Journals level extracted combined place me local peers) (x ∷ []) (option_to_list t.onward) old new

-- what it gives next may be sent after all that it gave before
abbrev pub LedgerKeepsWindow : {D : Type 0} → (D → ℕ → List ℕ → Level) → (D → ℕ → List ℕ → Option (List ℕ)) → (D → ℕ → List (List ℕ) → List ℕ) → (D → ℕ → ℕ → ℕ → ℕ) → Type 0
LedgerKeepsWindow {D} level extracted combined place = (me : NodeId) (local : QuorumTree) (peers : List NodeId) (took : List Ready) (onwards : List Onward) (old : LedgerView D) (x : Ready) (t : Took) (new : LedgerView D) → Takes level extracted combined place old x t new → IsLedger new → Journals level extracted combined place me local peers took onwards old → KeepsWindow new.first (onwards ++ option_to_list t.onward) × IfSome t.onward (MaySend new.first onwards)
