-- The ends of an outbox may cross threads: step by step, since a search through all of it runs out of steps.
use denote.RattleType.{RattleType}
use denote.Builtin.{unit}
use denote.Param.Send.{IsSend, IsSync, sendable, view_send}
use denote.Param.SendFields.{declared_send, declared_sync}
use Rattle.std.proofs.Crossing.{crosses, frees, Arc-send}
use Rattle.std.specs.contracts.alloc.Global as heap
use Rattle.std.specs.contracts.impls.GlobalAllocator.TheImpl.{ghosts}
use Rattle.circular_buffer.specs.contracts.heap.HeapCircularBuffer as buffer
use Rattle.circular_buffer.proofs.Crosses.{Cells-send, Deed-send}
use Rattle.std.specs.contracts.option.Option as option
use Rattle.atomic_table.proofs.shared.Seat.TheSendSync as seat
use Rattle.atomic_table.proofs.shared.Shared.TheSendSync as shared
use Rattle.atomic_table.proofs.send_lease.SendLease.TheSendSync as lease
use Rattle.atomic_table.specs.contracts.owned.Table as table
use Rattle.atomic_table.specs.declared.shared.TableRule.{Ghosts}
use Rattle.crossbeam_queue.specs.contracts.array_queue.Slotted as slotted
use Rattle.crossbeam_queue.specs.contracts.array_queue.Doing as doing
use Rattle.crossbeam_queue.specs.contracts.array_queue.Turns as turns
use Rattle.crossbeam_queue.specs.contracts.array_queue.TurnsTableRuleOptionDoingUnit.TheImpl as turns_rule
use Rattle.scp_outbox.specs.scp_quorum.specs.contracts.quorum_set.QuorumSet as set
use Rattle.scp_outbox.specs.scp_quorum.proofs.quorum_set.QuorumSet.TheLaws.TheKnot.{send-QuorumSet}
use Rattle.scp_outbox.specs.scp_wire.specs.contracts.boxed.BoxedEnvelope as boxed
use Rattle.scp_outbox.specs.scp_wire.proofs.boxed.BoxedEnvelope.TheSendSync.{the_send}
use Rattle.scp_outbox.specs.scp_wire.specs.contracts.message.Message as message
use Rattle.scp_outbox.specs.contracts.mark.Mark as mark
use Rattle.scp_outbox.specs.contracts.outbox.Outbox as outbox
use Rattle.scp_shared_outbox.specs.contracts.turn.Part as part
use Rattle.scp_shared_outbox.specs.contracts.rule.OneOrder as rule
use Rattle.scp_shared_outbox.specs.contracts.rule.OneOrderProtocolOutboxPart.TheImpl as one_order
use Rattle.scp_shared_outbox.specs.contracts.desk.Desk as desk
use Rattle.scp_shared_outbox.specs.contracts.ends.Putter as putter
use Rattle.scp_shared_outbox.specs.contracts.ends.Putter.TheInside as putter_inside
use Rattle.scp_shared_outbox.specs.contracts.ends.Marker as marker
use Rattle.scp_shared_outbox.specs.contracts.ends.Marker.TheInside as marker_inside
use Rattle.scp_shared_outbox.specs.contracts.ends.Taker as taker
use Rattle.scp_shared_outbox.specs.contracts.ends.Taker.TheInside as taker_inside
use Rattle.scp_shared_outbox.specs.Crossing.{EndsCross}

set_send : IsSend set.the_row
set_send = search (sendable, crosses, send-QuorumSet) depth 40

boxed_send : IsSend boxed.the_row
boxed_send = search (sendable, crosses, the_send) depth 40

mark_send : IsSend mark.the_row
mark_send = search (sendable, crosses) depth 40

message_send : IsSend set.the_row → IsSend boxed.the_row → IsSend message.the_row
message_send s b = search (sendable, crosses) depth 40

buffer_send : (T : RattleType) → IsSend T → IsSend (buffer.the_row T heap.the_row ghosts)
buffer_send T s =
    let c = Cells-send T s in let d = Deed-send T heap.the_row ghosts frees in
    search (sendable, crosses) depth 40

outbox_send : IsSend (buffer.the_row mark.the_row heap.the_row ghosts) → IsSend (buffer.the_row message.the_row heap.the_row ghosts) → IsSend (buffer.the_row boxed.the_row heap.the_row ghosts) → IsSend outbox.the_row
outbox_send m x b = search (sendable, crosses) depth 40

its_outbox_send : IsSend outbox.the_row
its_outbox_send = outbox_send (buffer_send mark.the_row mark_send) (buffer_send message.the_row (message_send set_send boxed_send)) (buffer_send boxed.the_row boxed_send)

-- a place may cross threads if what is in it may
module _ (S D Q : RattleType) (g : Ghosts Q.Denot S.Denot D.Denot unit.Denot) where
  table_send : IsSend S → IsSend (table.the_row S D unit Q heap.the_row g ghosts)
  table_send s = search (sendable, crosses, shared.the_send, lease.the_send) depth 40

  table_sync : IsSend S → IsSync (table.the_row S D unit Q heap.the_row g ghosts)
  table_sync s = search (sendable, crosses, shared.the_sync, lease.the_sync) depth 40

  place_send : IsSend (table.the_row S D unit Q heap.the_row g ghosts) → IsSend (slotted.the_row S D Q heap.the_row g ghosts)
  place_send t = declared_send (slotted.the_type S D Q heap.the_row g ghosts) (t, (search sendable depth 20, (search sendable depth 20, tt)))

  place_sync : IsSync (table.the_row S D unit Q heap.the_row g ghosts) → IsSync (slotted.the_row S D Q heap.the_row g ghosts)
  place_sync t = declared_sync (slotted.the_type S D Q heap.the_row g ghosts) (t, (search sendable depth 20, (search sendable depth 20, tt)))

abbrev lying : RattleType
lying = option.the_row outbox.the_row

lying_send : IsSend outbox.the_row → IsSend lying
lying_send o = search (sendable, crosses) depth 40

-- the ghost members of the rule of what is there
abbrev its_rule : Ghosts (turns.the_row rule.the_row).Denot lying.Denot (doing.the_row outbox.the_row part.the_row).Denot unit.Denot
its_rule = turns_rule.ghosts outbox.the_row part.the_row rule.the_row one_order.ghosts turns_rule.no_dict

desk_send : IsSend lying → IsSend desk.the_row
desk_send o = declared_send desk.the_type (place_send lying (doing.the_row outbox.the_row part.the_row) (turns.the_row rule.the_row) its_rule (table_send lying (doing.the_row outbox.the_row part.the_row) (turns.the_row rule.the_row) its_rule o), (search (sendable, crosses) depth 40, (search (sendable, crosses) depth 40, tt)))

desk_sync : IsSend lying → IsSync desk.the_row
desk_sync o = declared_sync desk.the_type (place_sync lying (doing.the_row outbox.the_row part.the_row) (turns.the_row rule.the_row) its_rule (table_sync lying (doing.the_row outbox.the_row part.the_row) (turns.the_row rule.the_row) its_rule o), (search (sendable, crosses) depth 40, (search (sendable, crosses) depth 40, tt)))

putter_send : IsSend outbox.the_row → IsSend desk.the_row → IsSync desk.the_row → IsSend putter.the_row
putter_send o s y = view_send _ _ _ _ _ (declared_send putter_inside.the_type (Arc-send desk.the_row s y, (search (sendable, crosses, seat.the_send) depth 40, (search sendable depth 20, tt))))

marker_send : IsSend outbox.the_row → IsSend desk.the_row → IsSync desk.the_row → IsSend marker.the_row
marker_send o s y = view_send _ _ _ _ _ (declared_send marker_inside.the_type (Arc-send desk.the_row s y, (search (sendable, crosses, seat.the_send) depth 40, tt)))

taker_send : IsSend outbox.the_row → IsSend desk.the_row → IsSync desk.the_row → IsSend taker.the_row
taker_send o s y = view_send _ _ _ _ _ (declared_send taker_inside.the_type (Arc-send desk.the_row s y, (search (sendable, crosses, seat.the_send) depth 40, tt)))

its_desk_send : IsSend desk.the_row
its_desk_send = desk_send (lying_send its_outbox_send)

its_desk_sync : IsSync desk.the_row
its_desk_sync = desk_sync (lying_send its_outbox_send)

pub ends_cross : EndsCross
ends_cross = record {
  putter = putter_send its_outbox_send its_desk_send its_desk_sync;
  marker = marker_send its_outbox_send its_desk_send its_desk_sync;
  taker = taker_send its_outbox_send its_desk_send its_desk_sync;
}
