-- What a node sends once more to a peer, because a lost connection may have lost it (this project's profile).
use Rattle.std.specs.Prelude.{ℕ, zero, suc, ◌+◌, ◌-◌, ◌^◌, List, [], ◌∷◌, ◌++◌, Option, Some, None, length, drop, flat_map, nat_lt, if◌then◌else◌}
use Rattle.scp_core.specs.scp_types.specs.declared.limits.TheConstants.{WINDOW}
use Rattle.scp_core.specs.scp_types.specs.declared.names.NodeId.{NodeId}
use Rattle.scp_core.specs.scp_envelope.specs.declared.statement.Envelope.{Envelope as Enveloped}
use Rattle.scp_core.specs.scp_envelope.specs.declared.statement.Pledges.{Pledges}
use Rattle.scp_core.specs.scp_nominate.specs.Nomination as nominate
use Rattle.scp_core.specs.scp_slot.specs.declared.machine.SlotMachine.{SlotMachine}
use Rattle.scp_core.specs.scp_slot.specs.Slot.{slot_view}
use Rattle.scp_core.specs.scp_wire.specs.declared.message.Message.{Message}
use Rattle.scp_core.specs.scp_wire.specs.declared.message.Message.TheVariants.{Envelope, GetRecord}
use Rattle.scp_core.specs.scp_ledger.specs.declared.journal.Asking.{Asking}
use Rattle.scp_core.specs.scp_ledger.specs.declared.journal.Decision.{Decision}
use Rattle.scp_core.specs.scp_ledger.specs.declared.journal.Origin.{Origin}
use Rattle.scp_core.specs.scp_ledger.specs.declared.journal.Origin.TheVariants.{Machine, Named}
use Rattle.scp_core.specs.scp_ledger.specs.Seen.{LedgerView, machine_at, is_asked}

-- An envelope as a message.
abbrev pub enveloped : Enveloped → Message
enveloped e = Envelope (record { value = e })

-- The node's own EXTERNALIZE of a decision that its machine made. A decision that rests on a record has none.
abbrev pub own_of : Origin → List Message
own_of (Machine n quorum own) = enveloped own ∷ []
own_of (Named conn seq) = []

-- The last n elements of a list, or all if there are fewer.
abbrev pub last_of : {X : Type 0} → ℕ → List X → List X
last_of n xs = drop (length xs - n) xs

-- The own EXTERNALIZE of each of the last 16 decisions that has one.
abbrev pub decided_again : List Decision → List Message
decided_again decisions = flat_map (λ (d : Decision). own_of d.origin) (last_of WINDOW decisions)

-- A node's own statement of a slot as a message, without a signature.
abbrev pub own_message : NodeId → ℕ → Pledges → Message
own_message me slot pledges = enveloped (record { statement = record { node = me; slot = record { 0 = slot }; pledges = pledges }; signature = [] })

-- The same of a statement that may be there.
abbrev pub own_messages : NodeId → ℕ → Option Pledges → List Message
own_messages me slot None = []
own_messages me slot (Some pledges) = own_message me slot pledges ∷ []

-- The statements that a slot's machine emitted last: first of its nomination, then of its ballots.
abbrev pub emitted_by : {D : Type 0} → NodeId → ℕ → Option (SlotMachine D) → List Message
emitted_by me slot None = []
emitted_by me slot (Some m) = own_messages me slot (nominate.own (slot_view m).nomination) ++ own_messages me slot (slot_view m).ballots.emitted

-- The request for a slot's record, if the node asked for it on this link.
abbrev pub asked_for : List Asking → ℕ → ℕ → List Message
asked_for asked link slot = if is_asked asked (record { slot = record { 0 = slot }; link = link }) then GetRecord (record { 0 = slot }) ∷ [] else []

module _ {D : Type 0} where
  -- What is sent once more about a slot: the request for its record, and the own statements that were emitted last. There is no slot from 2^64 on.
  abbrev pub again_at : LedgerView D → ℕ → ℕ → List Message
  again_at v link slot = if nat_lt slot (2 ^ 64) then asked_for v.asked link slot ++ emitted_by v.me slot (machine_at v.machines slot) else []

  -- What is sent once more about this many slots, from the lowest undecided one on.
  abbrev pub slots_again : LedgerView D → ℕ → ℕ → List Message
  slots_again v link zero = []
  slots_again v link (suc k) = slots_again v link k ++ again_at v link (v.lowest + k)

  -- What is sent once more on a link. Of the last 16 decisions, the EXTERNALIZE of each that the node's own machine made. For each of
  -- the 16 open slots, the request for its record, and the own statements that were emitted last.
  abbrev pub again_of : LedgerView D → ℕ → List Message
  again_of v link = decided_again v.decisions ++ slots_again v link WINDOW
