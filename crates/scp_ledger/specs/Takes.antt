-- What a ledger does with each thing that it takes.
use Rattle.std.specs.Prelude.{ℕ, ◌≡◌, ◌⊎◌, Bool, true, false, cond, List, [], ◌∷◌, ◌++◌, Option, Some, None, is_some, option_map, option_to_list, map}
use Rattle.std.specs.BTreeMap as tree
use Rattle.std.specs.BTreeSet as tree_set
use Rattle.std.specs.List.Sorted.{IsStrictlySortedBy}
use Rattle.std.specs.Option.{ForSome}
use Rattle.std.specs.Ordering.{nat_cmp}
use Rattle.scp_slot.specs.scp_types.specs.declared.names.ConnId.{ConnId}
use Rattle.scp_slot.specs.scp_types.specs.declared.names.Seq.{Seq}
use Rattle.scp_slot.specs.scp_types.specs.declared.names.Slot.{Slot}
use Rattle.scp_slot.specs.scp_driver.specs.declared.driver.Level.{Level}
use Rattle.scp_slot.specs.scp_quorum.specs.NodeSet.{node_cmp}
use Rattle.scp_slot.specs.scp_quorum.specs.QuorumTree.{QuorumTree}
use Rattle.scp_slot.specs.scp_quorum.specs.SharedSet.{SharedSet}
use Rattle.scp_slot.specs.scp_envelope.specs.declared.statement.Envelope.{Envelope as Enveloped}
use Rattle.scp_pending.specs.scp_wire.specs.Boxed.{Boxed}
use Rattle.scp_pending.specs.scp_wire.specs.declared.link.Command.{Command}
use Rattle.scp_pending.specs.scp_wire.specs.declared.link.Command.TheVariants.{Propose, Round, Timer, Tick, Ask}
use Rattle.scp_pending.specs.scp_wire.specs.declared.message.Message.{Message}
use Rattle.scp_pending.specs.scp_wire.specs.declared.message.Message.TheVariants.{Envelope, GetSet, Set, NoSet, GetRecord, Record, Records}
use Rattle.scp_pending.specs.declared.ready.Ready.{Ready}
use Rattle.scp_pending.specs.declared.ready.Ready.TheVariants as ready
use Rattle.scp_slot.specs.scp_ballot.specs.declared.balloted.Certified.{Certified}
use Rattle.scp_slot.specs.declared.machine.SlotMachine.{SlotMachine}
use Rattle.scp_slot.specs.declared.output.SlotInput.{SlotInput}
use Rattle.scp_slot.specs.declared.output.SlotInput.TheVariants as input
use Rattle.scp_slot.specs.declared.output.SlotOutput.{SlotOutput}
use Rattle.scp_slot.specs.declared.output.Emitted.{Emitted}
use Rattle.scp_slot.specs.declared.output.Verdict.{Verdict as Found}
use Rattle.scp_slot.specs.declared.output.Verdict.TheVariants as found
use Rattle.scp_slot.specs.Slot.{slot_view, driver_of, Begins, VotesWell}
use Rattle.scp_slot.specs.Takes as slot
use Rattle.scp_ledger.specs.declared.journal.Asking.{Asking}
use Rattle.scp_ledger.specs.declared.journal.Decision.{Decision}
use Rattle.scp_ledger.specs.declared.journal.Fate.{Fate}
use Rattle.scp_ledger.specs.declared.journal.Fate.TheVariants.{Taken, Dropped, Closed}
use Rattle.scp_ledger.specs.declared.journal.Verdict.{Verdict}
use Rattle.scp_ledger.specs.declared.journal.Verdict.TheVariants.{Own, BadStatement, BadValue, Stale, Idle, Fresh, Forwarded, Decided as Deciding}
use Rattle.scp_ledger.specs.declared.journal.Origin.TheVariants.{Machine}
use Rattle.scp_ledger.specs.declared.took.Took.{Took}
use Rattle.scp_ledger.specs.declared.took.Onward.{Onward}
use Rattle.scp_ledger.specs.declared.took.Onward.TheVariants.{Decided, Asked}
use Rattle.scp_ledger.specs.declared.took.Outgoing.{Outgoing}
use Rattle.scp_ledger.specs.declared.took.Outgoing.TheVariants.{ToAll, To}
use Rattle.scp_ledger.specs.Seen.{LedgerView, machine_at, is_asked, asking_cmp}
use Rattle.scp_ledger.specs.Decisions.{named_by}
use Rattle.scp_ledger.specs.Verdicts.{IsOpen, BehindWindow, IsStatementVerdict, IsRecordVerdict, IsAskVerdict, link_of}

-- ---- a slot's machine runs

-- what a machine found, as the ledger says it
abbrev pub verdict_from : Found → Verdict
verdict_from found.Fresh = Fresh
verdict_from found.Stale = Stale
verdict_from found.Own = Own
verdict_from found.BadStatement = BadStatement
verdict_from found.BadValue = BadValue
verdict_from found.Idle = Idle

-- the machine of a slot: the one that is there, or one that has heard and said nothing
abbrev pub IsMachineFor : {D : Type 0} → LedgerView D → Slot → Option (SlotMachine D) → SlotMachine D → Type 0
IsMachineFor v at None m = Begins v.me at.0 v.local (slot_view m) × (driver_of m ≡ v.driver)
IsMachineFor v at (Some there) m = m ≡ there

-- what a certified value decides
abbrev pub decision_of : Slot → Option Certified → Option Decision
decision_of at None = None
decision_of at (Some c) = Some (record { slot = at; value = c.value; origin = Machine c.n (tree_set.keys c.quorum) c.own })

-- the nodes of its quorum ascend
abbrev pub HasAscendingNodes : Certified → Type 0
HasAscendingNodes c = IsStrictlySortedBy node_cmp (tree_set.keys c.quorum)

-- a decision as it goes on
abbrev pub decided_onward : Decision → Onward
decided_onward d = Decided d

-- an envelope to every peer
abbrev pub to_all : Enveloped → Outgoing
to_all envelope = ToAll envelope

-- the own statements that are emitted, for all peers
abbrev pub to_peers : Emitted → List Outgoing
to_peers e = map to_all (option_to_list e.nomination ++ option_to_list e.ballot)

-- An input at an open slot runs its machine: one is made if there is none, and dropped if it decides. A decision goes on, with a certificate
-- whose nodes ascend. What the machine emits goes to all peers, and its driver stays. Its votes, accepted values and candidates are those
-- that the steps of nomination come to. Each new vote has its reason: it votes for nothing that nobody proposed.
-- steps of nomination come to, and each new vote has its reason: it votes for nothing that nobody proposed.
pub record RunsAt {D : Type 0} (level : D → ℕ → List ℕ → Level) (extracted : D → ℕ → List ℕ → Option (List ℕ)) (combined : D → ℕ → List (List ℕ) → List ℕ) (place : D → ℕ → ℕ → ℕ → ℕ) (old : LedgerView D) (at : Slot) (given : SlotInput) (fates : List Fate) (took : Took) (new : LedgerView D) : Type 0 where
  pub is_open : IsOpen old.lowest old.decisions at.0
  pub before : SlotMachine D
  pub machine : IsMachineFor old at (machine_at old.machines at.0) before
  pub out : SlotOutput
  pub after : SlotMachine D
  pub takes : slot.Takes (level (driver_of before) (slot_view before).slot) (combined (driver_of before) (slot_view before).nomination.slot) given (slot_view before) out (slot_view after)
  pub decides : slot.Decides (slot_view before) out (slot_view after)
  pub ascending : ForSome out.decided HasAscendingNodes
  pub driver : driver_of after ≡ driver_of before
  pub nominates : slot.NominatesExactly level extracted place (slot_view before) given after
  pub votes : VotesWell level extracted place (slot_view before) after
  pub machines : (s : ℕ) → machine_at new.machines s ≡ cond (tree.is_at (nat_cmp at.0) s) (cond (is_some out.decided) None (Some after)) (machine_at old.machines s)
  pub verdict : took.verdict ≡ Some (verdict_from out.verdict)
  pub onward : took.onward ≡ option_map decided_onward (decision_of at out.decided)
  pub outgoing : took.outgoing ≡ to_peers out.emitted
  pub decisions : new.decisions ≡ old.decisions ++ option_to_list (decision_of at out.decided)
  pub journal : new.journal ≡ old.journal ++ fates
  pub same : new ≡ record old { journal = new.journal; decisions = new.decisions; machines = new.machines; lowest = new.lowest }

-- Only these entries come of it.
pub record Passes {D : Type 0} (old : LedgerView D) (said : Option Verdict) (fates : List Fate) (took : Took) (new : LedgerView D) : Type 0 where
  pub verdict : took.verdict ≡ said
  pub onward : took.onward ≡ None
  pub outgoing : took.outgoing ≡ []
  pub same : new ≡ record old { journal = old.journal ++ fates }

-- ---- messages

-- an envelope's verdict is that of its statement; it runs its slot's machine if the slot is open
abbrev pub TakesEnvelope : {D : Type 0} → (D → ℕ → List ℕ → Level) → (D → ℕ → List ℕ → Option (List ℕ)) → (D → ℕ → List (List ℕ) → List ℕ) → (D → ℕ → ℕ → ℕ → ℕ) → LedgerView D → ConnId → Seq → Boxed → Option QuorumTree → Took → LedgerView D → Type 0
TakesEnvelope level extracted combined place old conn seq e beside took new =
    (set : SharedSet) × (beside ≡ Some set.value) × (verdict : Verdict) × IsStatementVerdict level old e.value.statement verdict × (took.verdict ≡ Some verdict)
    × (((¬ (IsOpen old.lowest old.decisions e.value.statement.slot.0)) × Passes old (Some verdict) (Taken conn seq (Envelope e) (Some set) verdict ∷ []) took new)
    ⊎ ((shared : SharedSet) × (shared.value ≡ set.value) × RunsAt level extracted combined place old e.value.statement.slot (input.Envelope e.value shared) (Taken conn seq (Envelope e) (Some set) verdict ∷ []) took new))

-- A record that decides: its decision goes on, and the machine of its slot is dropped.
pub record Decides {D : Type 0} (old : LedgerView D) (conn : ConnId) (seq : Seq) (at : Slot) (value : List ℕ) (set : Option SharedSet) (took : Took) (new : LedgerView D) : Type 0 where
  pub onward : took.onward ≡ Some (Decided (named_by conn seq at value))
  pub outgoing : took.outgoing ≡ []
  pub decisions : new.decisions ≡ old.decisions ++ named_by conn seq at value ∷ []
  pub journal : new.journal ≡ old.journal ++ Taken conn seq (Record at value) set Deciding ∷ []
  pub machines : (s : ℕ) → machine_at new.machines s ≡ cond (tree.is_at (nat_cmp at.0) s) None (machine_at old.machines s)
  pub same : new ≡ record old { journal = new.journal; decisions = new.decisions; machines = new.machines; lowest = new.lowest }

-- what a record gives: its verdict, its entry, and the decision if the verdict is Decided
abbrev pub TakesRecord : {D : Type 0} → LedgerView D → ConnId → Seq → Slot → List ℕ → Option SharedSet → Took → LedgerView D → Type 0
TakesRecord old conn seq at value set took new =
    (verdict : Verdict) × IsRecordVerdict old (link_of old.peers conn) at verdict × (took.verdict ≡ Some verdict)
    × (((¬ (verdict ≡ Deciding)) × Passes old (Some verdict) (Taken conn seq (Record at value) set verdict ∷ []) took new)
    ⊎ ((verdict ≡ Deciding) × Decides old conn seq at value set took new))

-- A request for a record goes on to the applier, with the link that it came over.
pub record Forwards {D : Type 0} (old : LedgerView D) (conn : ConnId) (seq : Seq) (at : Slot) (set : Option SharedSet) (took : Took) (new : LedgerView D) : Type 0 where
  pub verdict : took.verdict ≡ Some Forwarded
  pub onward : took.onward ≡ Some (Asked (link_of old.peers conn) at)
  pub outgoing : took.outgoing ≡ []
  pub same : new ≡ record old { journal = old.journal ++ Taken conn seq (GetRecord at) set Forwarded ∷ [] }

-- the entry has the quorum set that came with the message
abbrev pub WithSet : Option QuorumTree → (Option SharedSet → Type 0) → Type 0
WithSet beside P = (set : Option SharedSet) × (option_map (λ s. s.value) set ≡ beside) × P set

-- what a message gives, by its kind
abbrev pub TakesMessage : {D : Type 0} → (D → ℕ → List ℕ → Level) → (D → ℕ → List ℕ → Option (List ℕ)) → (D → ℕ → List (List ℕ) → List ℕ) → (D → ℕ → ℕ → ℕ → ℕ) → LedgerView D → ConnId → Seq → Message → Option QuorumTree → Took → LedgerView D → Type 0
TakesMessage level extracted combined place old conn seq (Envelope e) beside took new = TakesEnvelope level extracted combined place old conn seq e beside took new
TakesMessage level extracted combined place old conn seq (GetSet hash) beside took new = ⊥
TakesMessage level extracted combined place old conn seq (Set inside) beside took new = ⊥
TakesMessage level extracted combined place old conn seq (NoSet hash) beside took new = ⊥
TakesMessage level extracted combined place old conn seq (GetRecord at) beside took new = WithSet beside (λ set. Forwards old conn seq at set took new)
TakesMessage level extracted combined place old conn seq (Record at value) beside took new = WithSet beside (λ set. TakesRecord old conn seq at value set took new)
TakesMessage level extracted combined place old conn seq (Records first values) beside took new = ⊥

-- ---- commands

-- a command for a slot's machine, which isn't run if the slot isn't open
abbrev pub Commands : {D : Type 0} → (D → ℕ → List ℕ → Level) → (D → ℕ → List ℕ → Option (List ℕ)) → (D → ℕ → List (List ℕ) → List ℕ) → (D → ℕ → ℕ → ℕ → ℕ) → LedgerView D → Slot → SlotInput → Took → LedgerView D → Type 0
Commands level extracted combined place old at given took new =
    ((verdict : Verdict) × BehindWindow old.lowest old.decisions at.0 (λ _. ⊥) verdict × Passes old (Some verdict) [] took new)
    ⊎ RunsAt level extracted combined place old at given [] took new

-- A fresh ask sends its request, and is known from then on.
pub record Asks {D : Type 0} (old : LedgerView D) (link : ℕ) (at : Slot) (took : Took) (new : LedgerView D) : Type 0 where
  pub onward : took.onward ≡ None
  pub outgoing : took.outgoing ≡ To link (GetRecord at) ∷ []
  pub asked : (a : Asking) → is_asked new.asked a ≡ cond (tree.is_at (asking_cmp (record { link = link; slot = at })) a) true (is_asked old.asked a)
  pub same : new ≡ record old { asked = new.asked }

-- what the command to ask a link gives: its verdict, and the request if the verdict is Fresh
abbrev pub TakesAsk : {D : Type 0} → LedgerView D → ℕ → Slot → Took → LedgerView D → Type 0
TakesAsk old link at took new =
    (verdict : Verdict) × IsAskVerdict old link at verdict × (took.verdict ≡ Some verdict)
    × (((¬ (verdict ≡ Fresh)) × Passes old (Some verdict) [] took new) ⊎ ((verdict ≡ Fresh) × Asks old link at took new))

-- what a command gives, by its kind
abbrev pub TakesCommand : {D : Type 0} → (D → ℕ → List ℕ → Level) → (D → ℕ → List ℕ → Option (List ℕ)) → (D → ℕ → List (List ℕ) → List ℕ) → (D → ℕ → ℕ → ℕ → ℕ) → LedgerView D → Command → Took → LedgerView D → Type 0
TakesCommand level extracted combined place old (Propose at value) took new = Commands level extracted combined place old at (input.Propose value) took new
TakesCommand level extracted combined place old (Round at) took new = Commands level extracted combined place old at input.Round took new
TakesCommand level extracted combined place old (Timer at) took new = Commands level extracted combined place old at input.Timer took new
TakesCommand level extracted combined place old Tick took new = Passes old None [] took new
TakesCommand level extracted combined place old (Ask link at) took new = TakesAsk old link at took new

-- ---- all that is taken

-- what a thing gives and leaves, by its kind
abbrev pub Takes : {D : Type 0} → (D → ℕ → List ℕ → Level) → (D → ℕ → List ℕ → Option (List ℕ)) → (D → ℕ → List (List ℕ) → List ℕ) → (D → ℕ → ℕ → ℕ → ℕ) → LedgerView D → Ready → Took → LedgerView D → Type 0
Takes level extracted combined place old (ready.Deliver d) took new = TakesMessage level extracted combined place old d.conn d.seq d.message d.set took new
Takes level extracted combined place old (ready.Dropped conn seq cause) took new = Passes old None (Dropped conn seq cause ∷ []) took new
Takes level extracted combined place old (ready.Closed conn cause) took new = Passes old None (Closed conn cause ∷ []) took new
Takes level extracted combined place old (ready.Local command) took new = TakesCommand level extracted combined place old command took new

-- the thing adds an entry
abbrev pub adds_entry : Ready → Bool
adds_entry (ready.Deliver d) = true
adds_entry (ready.Dropped conn seq cause) = true
adds_entry (ready.Closed conn cause) = true
adds_entry (ready.Local command) = false
