-- What a node says of a slot (this project's profile).
use Rattle.std.specs.Prelude.{ℕ, ◌+◌, ◌<◌, ◌≤◌, ◌≡◌, List, [], ◌++◌, Option, Some, None}
use Rattle.std.specs.List.{find}
use Rattle.scp_again.specs.scp_types.specs.declared.limits.TheConstants.{WINDOW}
use Rattle.scp_again.specs.scp_envelope.specs.declared.statement.Pledges.{Pledges}
use Rattle.scp_again.specs.scp_nominate.specs.Nomination as nominate
use Rattle.scp_again.specs.scp_slot.specs.declared.machine.SlotMachine.{SlotMachine}
use Rattle.scp_again.specs.scp_slot.specs.Slot.{slot_view}
use Rattle.scp_again.specs.scp_wire.specs.declared.message.Message.{Message}
use Rattle.scp_again.specs.scp_ledger.specs.declared.journal.Decision.{Decision}
use Rattle.scp_again.specs.scp_ledger.specs.Decisions.{is_at}
use Rattle.scp_again.specs.scp_ledger.specs.Seen.{LedgerView, machine_at}
use Rattle.scp_again.specs.Again.{own_of, emitted_by}

-- What a node says of a slot: the value that is decided for it, if there is one, and the own statements that it would say once more.
pub record Saying : Type 0 where
  pub decided : Option (List ℕ)
  pub externalized : List Message  -- the own EXTERNALIZE of that decision, if the node's machine made it
  pub nominated : Option Pledges  -- the own nomination that the slot's machine emitted last
  pub balloted : Option Pledges  -- the ballot statement that it emitted last

-- The value of a decision, if there is one.
abbrev pub decided_by : Option Decision → Option (List ℕ)
decided_by None = None
decided_by (Some d) = Some d.value

-- The own EXTERNALIZE of a decision, if there is one and the node's machine made it.
abbrev pub externalized_by : Option Decision → List Message
externalized_by None = []
externalized_by (Some d) = own_of d.origin

-- The own nomination that a slot's machine emitted last.
abbrev pub nominated_by : {D : Type 0} → Option (SlotMachine D) → Option Pledges
nominated_by None = None
nominated_by (Some m) = nominate.own (slot_view m).nomination

-- The ballot statement that a slot's machine emitted last.
abbrev pub balloted_by : {D : Type 0} → Option (SlotMachine D) → Option Pledges
balloted_by None = None
balloted_by (Some m) = (slot_view m).ballots.emitted

-- The decision of a slot, if there is one.
abbrev pub decision_at : List Decision → ℕ → Option Decision
decision_at decisions slot = find (is_at slot) decisions

module _ {D : Type 0} where
  -- What a node with this ledger says of a slot.
  abbrev pub saying_at : LedgerView D → ℕ → Saying
  saying_at v slot = record {
    decided = decided_by (decision_at v.decisions slot);
    externalized = externalized_by (decision_at v.decisions slot);
    nominated = nominated_by (machine_at v.machines slot);
    balloted = balloted_by (machine_at v.machines slot);
  }

  -- The same as messages: the EXTERNALIZE, the nomination, and the ballot statement.
  abbrev pub said_at : LedgerView D → ℕ → List Message
  said_at v slot = externalized_by (decision_at v.decisions slot) ++ emitted_by v.me slot (machine_at v.machines slot)

  -- Two ledgers say the same of this many slots from a first one on.
  abbrev pub SaySame : ℕ → ℕ → LedgerView D → LedgerView D → Type 0
  SaySame count first old new = (slot : ℕ) → first ≤ slot → slot < first + count → saying_at old slot ≡ saying_at new slot

  -- Two ledgers say the same: both have this slot as the lowest undecided one, and say the same of each of the 16 open slots, which are those
  -- from it on.
  pub record SaysTheSame (first : ℕ) (old new : LedgerView D) : Type 0 where
    pub lowest : old.lowest ≡ first
    pub lowest_too : new.lowest ≡ first
    pub same : SaySame WINDOW first old new
