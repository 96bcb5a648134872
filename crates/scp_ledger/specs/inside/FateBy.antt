-- What became of a command, by its verdict; nothing here need be believed.
use Rattle.std.specs.Prelude.{◌≡◌, Option, Some, None}
use Rattle.scp_slot.specs.scp_ballot.specs.Balloting.{HasBallot}
use Rattle.scp_slot.specs.declared.machine.SlotMachine.{SlotMachine}
use Rattle.scp_slot.specs.Slot.{slot_view}
use Rattle.scp_ledger.specs.declared.journal.Verdict.{Verdict}
use Rattle.scp_ledger.specs.declared.journal.Verdict.TheVariants as verdict
use Rattle.scp_ledger.specs.declared.took.CommandFate.{CommandFate}
use Rattle.scp_ledger.specs.declared.took.CommandFate.TheVariants.{OldSlot, FarSlot, Decided, BadValue, NoBallot, BallotStays}
use Rattle.scp_ledger.specs.Verdicts.{FirstOf}

-- the fate at a slot that isn't open, or of a bad value; else `idle` where nothing changed, and `fresh` where something did
abbrev pub fate_by : Option Verdict → CommandFate → CommandFate → CommandFate
fate_by None idle fresh = fresh
fate_by (Some verdict.OldSlot) idle fresh = OldSlot
fate_by (Some verdict.FarSlot) idle fresh = FarSlot
fate_by (Some verdict.Already) idle fresh = Decided
fate_by (Some verdict.Unasked) idle fresh = fresh
fate_by (Some verdict.Own) idle fresh = fresh
fate_by (Some verdict.BadStatement) idle fresh = fresh
fate_by (Some verdict.BadValue) idle fresh = BadValue
fate_by (Some verdict.Stale) idle fresh = fresh
fate_by (Some verdict.Idle) idle fresh = idle
fate_by (Some verdict.Fresh) idle fresh = fresh
fate_by (Some verdict.Forwarded) idle fresh = fresh
fate_by (Some verdict.Decided) idle fresh = fresh

-- there is a machine, and it has a ballot
abbrev pub HasBallotAt : {D : Type 0} → Option (SlotMachine D) → Type 0
HasBallotAt None = ⊥
HasBallotAt (Some m) = HasBallot (slot_view m).ballots

-- the fate of a timer that gives no statement
abbrev pub IsIdleTimer : {D : Type 0} → Option (SlotMachine D) → CommandFate → Type 0
IsIdleTimer o = FirstOf (¬ (HasBallotAt o)) NoBallot (λ fate. fate ≡ BallotStays)
