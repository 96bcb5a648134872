-- What became of a command, by the ledger that took it and the machine of its slot as it was.
use Rattle.std.specs.Prelude.{ℕ, ◌<◌, ◌≤◌, ◌≡◌, ◌≢◌, ◌⊎◌, true, List, [], None, IsSome, IsSomeAnd, length}
use Rattle.scp_slot.specs.scp_types.specs.declared.names.Slot.{Slot}
use Rattle.scp_slot.specs.scp_driver.specs.declared.driver.Level.{Level}
use Rattle.scp_slot.specs.scp_driver.specs.declared.driver.Level.TheVariants.{FullyValidated}
use Rattle.scp_pending.specs.scp_wire.specs.declared.link.Command.{Command}
use Rattle.scp_pending.specs.scp_wire.specs.declared.link.Command.TheVariants.{Propose, Round, Timer, Tick, Ask}
use Rattle.scp_pending.specs.declared.ready.Ready.{Ready}
use Rattle.scp_pending.specs.declared.ready.Ready.TheVariants as ready
use Rattle.scp_slot.specs.scp_ballot.specs.Balloting.{HasBallot}
use Rattle.scp_slot.specs.declared.machine.SlotMachine.{SlotMachine}
use Rattle.scp_slot.specs.Slot.{SlotView, slot_view}
use Rattle.scp_ledger.specs.declared.journal.Decision.{Decision}
use Rattle.scp_ledger.specs.declared.took.CommandFate.{CommandFate}
use Rattle.scp_ledger.specs.declared.took.CommandFate.TheVariants.{OldSlot, FarSlot, Decided, BadValue, ProposedBefore, Proposed, NoRoundLeft, RoundAdded, NoBallot, BallotStays, BallotMoved, AskedBefore, Asked}
use Rattle.scp_ledger.specs.declared.took.Outgoing.{Outgoing}
use Rattle.scp_ledger.specs.declared.took.Took.{Took}
use Rattle.scp_ledger.specs.Decisions.{is_decided}
use Rattle.scp_ledger.specs.Seen.{LedgerView, machine_at, is_asked}
use Rattle.scp_ledger.specs.Takes.{IsMachineFor}
use Rattle.scp_ledger.specs.Verdicts.{FirstOf, IsFar}

-- what is checked before a slot's machine is asked: the slot is below the lowest undecided one, beyond the window, or decided
abbrev pub BeforeMachine : ℕ → List Decision → ℕ → (CommandFate → Type 0) → CommandFate → Type 0
BeforeMachine lowest decisions slot later =
    FirstOf (slot < lowest) OldSlot
    (FirstOf (IsFar lowest slot) FarSlot
    (FirstOf (is_decided slot decisions ≡ true) Decided
    later))

-- by the slot's machine as it was before: the one that is there, or one that has heard and said nothing
abbrev pub ByMachine : {D : Type 0} → LedgerView D → Slot → (SlotView → CommandFate → Type 0) → CommandFate → Type 0
ByMachine {D} v at told fate = (m : SlotMachine D) × IsMachineFor v at (machine_at v.machines at.0) m × told (slot_view m) fate

-- a proposal's fate at an open slot: it isn't fully validated, one was kept before, or it is kept
abbrev pub IsProposalFate : {D : Type 0} → (D → ℕ → List ℕ → Level) → LedgerView D → Slot → List ℕ → CommandFate → Type 0
IsProposalFate level v at value =
    BeforeMachine v.lowest v.decisions at.0
    (FirstOf (level v.driver at.0 value ≢ FullyValidated) BadValue
    (ByMachine v at (λ m. FirstOf (IsSome m.nomination.proposal) ProposedBefore
    (λ fate. fate ≡ Proposed))))

-- a round's fate at an open slot: there were as many rounds as nodes that can lead one, or it is added
abbrev pub IsRoundFate : {D : Type 0} → LedgerView D → Slot → CommandFate → Type 0
IsRoundFate v at =
    BeforeMachine v.lowest v.decisions at.0
    (ByMachine v at (λ m. FirstOf (length m.nomination.nodes ≤ m.nomination.rounds) NoRoundLeft
    (λ fate. fate ≡ RoundAdded)))

-- a timer's fate at an open slot: an own ballot statement goes out, there was no ballot, or there was one
abbrev pub IsTimerFate : {D : Type 0} → LedgerView D → Slot → List Outgoing → CommandFate → Type 0
IsTimerFate v at outgoing =
    BeforeMachine v.lowest v.decisions at.0
    (FirstOf (outgoing ≢ []) BallotMoved
    (ByMachine v at (λ m. FirstOf (¬ (HasBallot m.ballots)) NoBallot
    (λ fate. fate ≡ BallotStays))))

-- the fate of the command to ask a link for a slot: the slot is decided or below the lowest undecided one; it is beyond the window; the link
-- was asked for it before; or it is asked now
abbrev pub IsAskFate : {D : Type 0} → LedgerView D → ℕ → Slot → CommandFate → Type 0
IsAskFate v link at =
    FirstOf ((is_decided at.0 v.decisions ≡ true) ⊎ (at.0 < v.lowest)) Decided
    (FirstOf (IsFar v.lowest at.0) FarSlot
    (FirstOf (is_asked v.asked (record { link = link; slot = at }) ≡ true) AskedBefore
    (λ fate. fate ≡ Asked)))

-- exactly one fate is reported for each command, and none for a Tick
abbrev pub TellsCommand : {D : Type 0} → (D → ℕ → List ℕ → Level) → LedgerView D → Command → Took → Type 0
TellsCommand level v (Propose at value) took = IsSomeAnd took.command (IsProposalFate level v at value)
TellsCommand level v (Round at) took = IsSomeAnd took.command (IsRoundFate v at)
TellsCommand level v (Timer at) took = IsSomeAnd took.command (IsTimerFate v at took.outgoing)
TellsCommand level v Tick took = took.command ≡ None
TellsCommand level v (Ask link at) took = IsSomeAnd took.command (IsAskFate v link at)

-- a fate is reported only for a command
abbrev pub TellsFate : {D : Type 0} → (D → ℕ → List ℕ → Level) → LedgerView D → Ready → Took → Type 0
TellsFate level v (ready.Deliver d) took = took.command ≡ None
TellsFate level v (ready.Dropped conn seq cause) took = took.command ≡ None
TellsFate level v (ready.Closed conn cause) took = took.command ≡ None
TellsFate level v (ready.Local command) took = TellsCommand level v command took
