-- What is said the same.
use Rattle.std.proofs.Common.{◌≡◌, ◌+◌, ◌<◌, ◌≤◌, ℕ, List, [], ◌++◌, refl, sym, ◌∙◌, ap}
use Rattle.std.specs.Prelude.{Option, Some, None}
use Rattle.scp_again.specs.scp_types.specs.declared.names.NodeId.{NodeId}
use Rattle.scp_again.specs.scp_slot.specs.declared.machine.SlotMachine.{SlotMachine}
use Rattle.scp_again.specs.scp_wire.specs.declared.message.Message.{Message}
use Rattle.scp_again.specs.scp_ledger.specs.Seen.{LedgerView, machine_at}
use Rattle.scp_again.specs.Again.{emitted_by, own_messages}
use Rattle.scp_epoch.specs.Laws.{TheSameIsSaidAgain}
use Rattle.scp_epoch.specs.Saying.{Saying, nominated_by, balloted_by, externalized_by, decision_at, saying_at, said_at}

-- what a node says of a slot, as messages
abbrev pub messages_of : NodeId → ℕ → Saying → List Message
messages_of me slot s = s.externalized ++ (own_messages me slot s.nominated ++ own_messages me slot s.balloted)

emitted_is : {D : Type 0} (me : NodeId) (slot : ℕ) (o : Option (SlotMachine D)) → emitted_by me slot o ≡ own_messages me slot (nominated_by o) ++ own_messages me slot (balloted_by o)
emitted_is me slot None = refl
emitted_is me slot (Some m) = refl

pub said_is : {D : Type 0} (v : LedgerView D) (slot : ℕ) → said_at v slot ≡ messages_of v.me slot (saying_at v slot)
said_is v slot = ap (λ (ms : List Message). externalized_by (decision_at v.decisions slot) ++ ms) (emitted_is v.me slot (machine_at v.machines slot))

pub said_same : (D : Type 0) → TheSameIsSaidAgain D
said_same D = λ first old new slot same me from near.
    said_is new slot ∙ (λ i. messages_of (me i) slot (sym (same.same slot from near) i)) ∙ sym (said_is old slot)
