use Rattle.std.proofs.Common.{List, [], subst}
use Rattle.std.specs.List.Sorted.{IsPermutation}
use Rattle.scp_pending.specs.Queues.{QueueView}
use Rattle.std.specs.List.Sorted.{IsStrictlySortedBy}
use Rattle.std.proofs.lemmas.Result.{IfOk-weaker}
use Rattle.scp_wire.specs.scp_types.specs.declared.names.NodeId.{NodeId}
use Rattle.scp_wire.specs.declared.link.Inbound.{Inbound}
use Rattle.scp_wire.specs.Shape.{HasShape}
use Rattle.scp_pending.specs.declared.ready.Ready.{Ready}
use Rattle.scp_pending.specs.Messages.{AreParked, message_cmp}
use Rattle.scp_pending.specs.inside.Outcome.{Adds, parked_in_all}
use Rattle.scp_pending.specs.Pends.{Pends}
use Rattle.scp_pending.specs.Rules.{PendingView}
use Rattle.scp_pending.proofs.Ascending.{ascending}
use Rattle.scp_pending.proofs.Messaging.{all_added, are_parked}
use Rattle.scp_pending.proofs.pending.Pending.into_parked.Goals as goal

pub returns-clause-parked : goal.returns-clause-parked
returns-clause-parked c =
    let v : PendingView = record c.self.inside.parking { failed = c.self.inside.failed } in
    rw (← c.self.view_is) (IfOk-weaker c.messages_of.result (λ messages. Adds (parked_in_all c.in_ok-queues.queues.items) [] messages.items) (λ messages. (me : NodeId) → (peers : List NodeId) → (taken : List Inbound) → (given : List Ready) → Pends me peers taken given v → AreParked v messages.items)
    (λ messages adds. λ me peers taken given p. are_parked me peers taken given v c.in_ok-queues.queues.items messages.items (subst (λ (qs : List QueueView). IsPermutation qs c.in_ok-queues.queues.items) c.into_queues.ensures c.in_ok-queues.ensures.same) (all_added (parked_in_all c.in_ok-queues.queues.items) messages.items adds) p)
    c.messages_of.ensures.added)

pub returns-clause-ascending : goal.returns-clause-ascending
returns-clause-ascending c =
    let v : PendingView = record c.self.inside.parking { failed = c.self.inside.failed } in
    rw (← c.self.view_is) (IfOk-weaker c.messages_of.result (λ messages. Adds (parked_in_all c.in_ok-queues.queues.items) [] messages.items) (λ messages. (me : NodeId) → (peers : List NodeId) → (taken : List Inbound) → (given : List Ready) → Pends me peers taken given v → HasShape me peers taken → IsStrictlySortedBy message_cmp messages.items)
    (λ messages adds. λ me peers taken given p shape. ascending me peers taken given v c.in_ok-queues.queues.items messages.items (subst (λ (qs : List QueueView). IsPermutation qs c.in_ok-queues.queues.items) c.into_queues.ensures c.in_ok-queues.ensures.same) c.in_ok-queues.ensures.sorted (all_added (parked_in_all c.in_ok-queues.queues.items) messages.items adds) p shape)
    c.messages_of.ensures.added)
