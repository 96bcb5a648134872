-- Workers, and what they end with, may cross threads: step by step, since a search through all of one runs out of steps.
use denote.RattleType.{RattleType}
use denote.Param.Send.{IsSend, IsSync, sendable, view_send}
use denote.Param.SendFields.{declared_send, variants_send}
use Rattle.std.proofs.Crossing.{crosses, Arc-send}
use Rattle.std.proofs.MapsCrossing as maps
use Rattle.scp_gather.specs.scp_types.proofs.names.ConnId.TheSendSync as conns
use Rattle.scp_gather.specs.scp_types.proofs.names.Seq.TheSendSync as seqs
use Rattle.scp_gather.specs.scp_types.proofs.names.NodeId.TheSendSync as nodes
use Rattle.scp_gather.specs.scp_types.proofs.names.Hash.TheSendSync as hashes
use Rattle.scp_gather.specs.scp_types.proofs.names.Slot.TheSendSync as slots
use Rattle.scp_gather.specs.scp_quorum.specs.contracts.quorum_set.QuorumSet as set
use Rattle.scp_gather.specs.scp_quorum.specs.contracts.sane_set.SaneSet as sane
use Rattle.scp_gather.specs.scp_quorum.proofs.quorum_set.QuorumSet.TheLaws.TheKnot.{sync-QuorumSet}
use Rattle.scp_gather.specs.scp_quorum.proofs.quorum.places.Seat.TheSendSync as seats
use Rattle.scp_gather.specs.scp_envelope.proofs.shared.SharedEnvelope.TheSendSync as envelopes
use Rattle.scp_gather.specs.scp_envelope.proofs.shared.SharedStatement.TheSendSync as statements
use Rattle.scp_gather.specs.scp_wire.proofs.link.Cause.TheSendSync as causes
use Rattle.scp_gather.specs.scp_wire.proofs.link.Command.TheSendSync as commands
use Rattle.scp_gather.specs.scp_wire.proofs.link.LinkItem.TheSendSync as items
use Rattle.scp_gather.specs.scp_wire.specs.contracts.message.Message as message
use Rattle.scp_gather.specs.scp_wire.specs.contracts.fitting.FittingMessage as fitting
use Rattle.scp_gather.specs.scp_wire.specs.contracts.carried.Carried as carried
use Rattle.scp_gather.specs.scp_wire.specs.contracts.link.Inbound as inbound
use Rattle.scp_gather.specs.scp_wire.specs.contracts.reader.LinkReader as link_reader
use Rattle.scp_gather.specs.scp_pending.specs.contracts.ready.Ready as ready
use Rattle.scp_gather.specs.scp_pending.specs.contracts.ready.Delivery as delivery
use Rattle.scp_gather.specs.scp_pending.specs.contracts.ready.Delivery.TheInside as delivery_inside
use Rattle.scp_gather.specs.scp_pending.proofs.ready.DropCause.TheSendSync as drops
use Rattle.scp_gather.specs.scp_pending.specs.contracts.parked.Parked as parked
use Rattle.scp_gather.specs.scp_pending.specs.contracts.queue.Queue as queue
use Rattle.scp_gather.specs.scp_pending.specs.contracts.pending.Parking as parking
use Rattle.scp_gather.specs.scp_pending.specs.contracts.pending.Parking.TheInside as parking_inside
use Rattle.scp_gather.specs.scp_pending.specs.contracts.pending.Pending as pending
use Rattle.scp_gather.specs.scp_fetch.specs.contracts.store.SetStore as store
use Rattle.scp_gather.specs.scp_fetch.proofs.fetcher.Fetcher.TheSendSync as fetching
use Rattle.scp_gather.specs.scp_vote.specs.contracts.statements.Entry as entry
use Rattle.scp_gather.specs.scp_vote.specs.contracts.table.Table as table
use Rattle.scp_gather.specs.scp_vote.specs.contracts.board.Board as board
use Rattle.scp_gather.specs.scp_nominate.specs.contracts.state.State as nominating
use Rattle.scp_gather.specs.scp_nominate.specs.contracts.nominator.Nominator as nominator
use Rattle.scp_gather.specs.scp_nominate.proofs.guide.Guide.TheSendSync as guides
use Rattle.scp_gather.specs.scp_nominate.proofs.lists.Lists.TheSendSync as lists
use Rattle.scp_gather.specs.scp_nominate.proofs.values.ValueSet.TheSendSync as values
use Rattle.scp_gather.specs.scp_ballot_rules.proofs.state.State.TheSendSync as rules
use Rattle.scp_gather.specs.scp_ballot.specs.contracts.machine.Machine as balloting
use Rattle.scp_gather.specs.scp_ballot.specs.contracts.balloter.Balloter as balloter
use Rattle.scp_gather.specs.scp_ballot.specs.contracts.balloter.Balloter.TheInside as balloter_inside
use Rattle.scp_gather.specs.scp_slot.specs.contracts.newest.Heard as heard
use Rattle.scp_gather.specs.scp_slot.specs.contracts.newest.Newest as newest
use Rattle.scp_gather.specs.scp_slot.specs.contracts.state.State as slot_state
use Rattle.scp_gather.specs.scp_slot.specs.contracts.machine.SlotMachine as machine
use Rattle.scp_gather.specs.scp_ledger.proofs.shared.SharedDecision.TheSendSync as decisions
use Rattle.scp_gather.specs.scp_ledger.proofs.window.Window.TheSendSync as windows
use Rattle.scp_gather.specs.scp_ledger.proofs.journal.Asking.TheSendSync as askings
use Rattle.scp_gather.specs.scp_ledger.proofs.journal.Verdict.TheSendSync as verdicts
use Rattle.scp_gather.specs.scp_ledger.proofs.took.CommandFate.TheSendSync as command_fates
use Rattle.scp_gather.specs.scp_ledger.specs.contracts.journal.Fate as fate
use Rattle.scp_gather.specs.scp_ledger.specs.contracts.state.State as ledger_state
use Rattle.scp_gather.specs.scp_ledger.specs.contracts.ledger.Ledger as ledger
use Rattle.scp_gather.specs.scp_ledger.specs.contracts.ledger.Ledger.TheInside as ledger_inside
use Rattle.scp_gather.specs.scp_shared_outbox.specs.Crossing.{EndsCross}
use Rattle.scp_gather.specs.scp_ends.proofs.Crossing.{set_send, message_send, fitting_send, carried_send, inbound_send}
use Rattle.scp_gather.specs.scp_ends.proofs.tail.LinkDone.TheSendSync as tails_done
use Rattle.scp_gather.specs.scp_workers.specs.contracts.reading.ReadingStage as reading
use Rattle.scp_gather.specs.scp_workers.specs.contracts.slot.SlotStage as slots_stage
use Rattle.scp_gather.specs.scp_workers.specs.contracts.courier.CourierEnded as courier_ended
use Rattle.scp_gather.specs.scp_workers.specs.contracts.courier.CourierEnded.TheInside as courier_ended_inside

ruleset plain = (sendable, crosses, maps.crosses)

set_sync : IsSync set.the_row
set_sync = search (sendable, crosses, sync-QuorumSet) depth 40

sane_send : IsSend set.the_row → IsSend sane.the_row
sane_send s = search (sendable, crosses) depth 40

sane_sync : IsSync set.the_row → IsSync sane.the_row
sane_sync s = search (sendable, crosses) depth 40

link_reader_send : IsSend inbound.the_row → IsSend link_reader.the_row
link_reader_send i = search (sendable, crosses) depth 40

delivery_inside_send : IsSend fitting.the_row → IsSend sane.the_row → IsSync sane.the_row → IsSend delivery_inside.the_row
delivery_inside_send m s y = declared_send delivery_inside.the_type (conns.the_send, (seqs.the_send, (m, (search (sendable, crosses) depth 40, tt))))

delivery_send : IsSend delivery_inside.the_row → IsSend delivery.the_row
delivery_send d = view_send _ _ _ _ _ d

ready_send : IsSend delivery.the_row → IsSend ready.the_row
ready_send d = variants_send ready.enum ((d, tt), ((conns.the_send, (seqs.the_send, (drops.the_send, tt))), ((conns.the_send, (causes.the_send, tt)), ((commands.the_send, tt), tt))))

parked_send : IsSend carried.the_row → IsSend delivery.the_row → IsSend parked.the_row
parked_send c d = variants_send parked.enum ((c, tt), ((d, tt), ((c, (drops.the_send, tt)), tt)))

queue_send : IsSend parked.the_row → IsSend queue.the_row
queue_send p = search (sendable, crosses) depth 40

store_send : IsSend sane.the_row → IsSync sane.the_row → IsSend store.the_row
store_send s y = search (plain) depth 40

parking_inside_send : IsSend store.the_row → IsSend queue.the_row → IsSend ready.the_row → IsSend parking_inside.the_row
parking_inside_send s q r = declared_send parking_inside.the_type (search sendable depth 20, (nodes.the_send, (search (sendable, crosses, nodes.the_send) depth 20, (s, (fetching.the_send, (search (sendable, crosses) depth 20, (search (sendable, crosses) depth 20, tt)))))))

parking_send : IsSend parking_inside.the_row → IsSend parking.the_row
parking_send p = view_send _ _ _ _ _ p

pending_send : IsSend parking.the_row → IsSend pending.the_row
pending_send p = search (sendable, crosses) depth 40

entry_send : IsSend sane.the_row → IsSync sane.the_row → IsSend entry.the_row
entry_send s y = declared_send entry.the_type (envelopes.the_send, (Arc-send sane.the_row s y, (search sendable depth 20, tt)))

table_send : IsSend sane.the_row → IsSync sane.the_row → IsSend entry.the_row → IsSend table.the_row
table_send s y e = declared_send table.the_type (search (sendable, maps.crosses, nodes.the_send) depth 20, (search (sendable, crosses, seats.the_send) depth 20, (search (sendable, crosses) depth 20, (search (sendable, maps.crosses, hashes.the_send) depth 20, tt))))

board_send : IsSend sane.the_row → IsSync sane.the_row → IsSend table.the_row → IsSend board.the_row
board_send s y t = declared_send board.the_type (search (sendable, crosses) depth 20, (nodes.the_send, (Arc-send sane.the_row s y, (t, (t, tt)))))

nominating_send : IsSend board.the_row → IsSend nominating.the_row
nominating_send b = declared_send nominating.the_type (search (sendable, crosses) depth 20, (hashes.the_send, (b, (values.the_send, (lists.the_send, tt)))))

nominator_send : (d : RattleType) → IsSend d → IsSend nominating.the_row → IsSend (nominator.the_row d)
nominator_send d crossing n = declared_send (nominator.the_type d) (search (sendable, crosses, guides.the_send, crossing) depth 20, (n, (search (sendable, crosses, nodes.the_send) depth 20, (search sendable depth 20, (search sendable depth 20, tt)))))

balloting_send : IsSend board.the_row → IsSend balloting.the_row
balloting_send b = declared_send balloting.the_type (search (sendable, crosses) depth 20, (slots.the_send, (hashes.the_send, (b, (rules.the_send, (search (sendable, statements.the_send) depth 20, tt))))))

balloter_send : IsSend balloting.the_row → IsSend balloter.the_row
balloter_send b = view_send _ _ _ _ _ (declared_send balloter_inside.the_type (b, (search sendable depth 20, tt)))

heard_send : IsSend sane.the_row → IsSync sane.the_row → IsSend heard.the_row
heard_send s y = declared_send heard.the_type (statements.the_send, (Arc-send sane.the_row s y, tt))

newest_send : IsSend heard.the_row → IsSend newest.the_row
newest_send h = search (sendable, maps.crosses, nodes.the_send) depth 40

slot_state_send : (d : RattleType) → IsSend (nominator.the_row d) → IsSend balloter.the_row → IsSend newest.the_row → IsSend (slot_state.the_row d)
slot_state_send d n b w = declared_send (slot_state.the_type d) (nodes.the_send, (slots.the_send, (n, (b, (w, (search sendable depth 20, (search sendable depth 20, tt)))))))

machine_send : (d : RattleType) → IsSend (slot_state.the_row d) → IsSend (machine.the_row d)
machine_send d s = declared_send (machine.the_type d) (search (sendable, crosses) depth 20, (search sendable depth 20, tt))

fate_send : IsSend message.the_row → IsSend sane.the_row → IsSync sane.the_row → IsSend fate.the_row
fate_send m s y = variants_send fate.enum ((conns.the_send, (seqs.the_send, (m, (search (sendable, crosses) depth 20, (verdicts.the_send, tt))))), ((conns.the_send, (seqs.the_send, (drops.the_send, tt))), ((conns.the_send, (causes.the_send, tt)), tt)))

ledger_state_send : (d : RattleType) → IsSend d → IsSend sane.the_row → IsSync sane.the_row → IsSend fate.the_row → IsSend (machine.the_row d) → IsSend (ledger_state.the_row d)
ledger_state_send d crossing s y f m = declared_send (ledger_state.the_type d) (search (sendable, crosses) depth 20, (nodes.the_send, (Arc-send sane.the_row s y, (search (sendable, crossing) depth 20, (search (sendable, crosses, nodes.the_send) depth 20, (search sendable depth 20, (search (sendable, crosses) depth 20, (search (sendable, crosses, decisions.the_send) depth 20, (windows.the_send, (search (sendable, maps.crosses) depth 20, (search (sendable, maps.crosses, askings.the_send) depth 20, tt)))))))))))

ledger_send : (d : RattleType) (ghosts : _) → IsSend (ledger_state.the_row d) → IsSend (ledger.the_row d ghosts)
ledger_send d ghosts s = view_send _ _ _ _ _ (declared_send (ledger_inside.the_type d ghosts) (s, (search sendable depth 20, tt)))

its_sane_send : IsSend sane.the_row
its_sane_send = sane_send set_send

its_sane_sync : IsSync sane.the_row
its_sane_sync = sane_sync set_sync

its_delivery_send : IsSend delivery.the_row
its_delivery_send = delivery_send (delivery_inside_send fitting_send its_sane_send its_sane_sync)

pub its_link_reader_send : IsSend link_reader.the_row
its_link_reader_send = link_reader_send inbound_send

pub its_ready_send : IsSend ready.the_row
its_ready_send = ready_send its_delivery_send

pub its_pending_send : IsSend pending.the_row
its_pending_send = pending_send (parking_send (parking_inside_send (store_send its_sane_send its_sane_sync) (queue_send (parked_send carried_send its_delivery_send)) its_ready_send))

its_board_send : IsSend board.the_row
its_board_send = board_send its_sane_send its_sane_sync (table_send its_sane_send its_sane_sync (entry_send its_sane_send its_sane_sync))

its_machine_send : (d : RattleType) → IsSend d → IsSend (machine.the_row d)
its_machine_send d crossing = machine_send d (slot_state_send d (nominator_send d crossing (nominating_send its_board_send)) (balloter_send (balloting_send its_board_send)) (newest_send (heard_send its_sane_send its_sane_sync)))

its_ledger_send : (d : RattleType) (ghosts : _) → IsSend d → IsSend (ledger.the_row d ghosts)
its_ledger_send d ghosts crossing = ledger_send d ghosts (ledger_state_send d crossing its_sane_send its_sane_sync (fate_send message_send its_sane_send its_sane_sync) (its_machine_send d crossing))

-- ---- the stages, and the couriers

reading_send : IsSend link_reader.the_row → IsSend reading.the_row
reading_send l = declared_send reading.the_type (search sendable depth 20, (search sendable depth 20, (search (sendable, crosses, items.the_send) depth 20, tt)))

pub its_reading_send : IsSend reading.the_row
its_reading_send = reading_send its_link_reader_send

slots_send : (d : RattleType) (ghosts : _) → IsSend (ledger.the_row d ghosts) → IsSend (slots_stage.the_row d ghosts)
slots_send d ghosts l = declared_send (slots_stage.the_type d ghosts) (search sendable depth 20, (search (sendable, crosses, command_fates.the_send) depth 20, tt))

-- of any application that crosses
pub its_slots_send : (d : RattleType) (ghosts : _) → IsSend d → IsSend (slots_stage.the_row d ghosts)
its_slots_send d ghosts crossing = slots_send d ghosts (its_ledger_send d ghosts crossing)

courier_ended_inside_send : EndsCross → IsSend courier_ended_inside.the_row
courier_ended_inside_send o = declared_send courier_ended_inside.the_type (search (sendable, crosses, tails_done.the_send) depth 20, (o.taker, (search sendable depth 20, (search sendable depth 20, tt))))

pub courier_ended_send : EndsCross → IsSend courier_ended.the_row
courier_ended_send o = view_send _ _ _ _ _ (courier_ended_inside_send o)
