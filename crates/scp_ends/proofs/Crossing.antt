-- What an inbox carries may cross threads: step by step, since a search through all of it runs out of steps.
use denote.Param.Send.{IsSend, sendable, view_send}
use denote.Param.SendFields.{declared_send, variants_send}
use Rattle.std.proofs.Crossing.{crosses}
use Rattle.scp_ledger.specs.scp_types.proofs.names.ConnId.TheSendSync as conns
use Rattle.scp_ledger.specs.scp_types.proofs.names.Seq.TheSendSync as seqs
use Rattle.scp_ledger.specs.scp_quorum.specs.contracts.quorum_set.QuorumSet as set
use Rattle.scp_ledger.specs.scp_quorum.proofs.quorum_set.QuorumSet.TheLaws.TheKnot.{send-QuorumSet}
use Rattle.scp_ledger.specs.scp_wire.proofs.boxed.BoxedEnvelope.TheSendSync as boxes
use Rattle.scp_ledger.specs.scp_wire.proofs.link.Cause.TheSendSync as causes
use Rattle.scp_ledger.specs.scp_wire.proofs.link.Command.TheSendSync as commands
use Rattle.scp_ledger.specs.scp_wire.specs.contracts.message.Message as message
use Rattle.scp_ledger.specs.scp_wire.specs.contracts.side.SideMessage as side
use Rattle.scp_ledger.specs.scp_wire.specs.contracts.fitting.FittingMessage as fitting
use Rattle.scp_ledger.specs.scp_wire.specs.contracts.fitting.FittingMessage.TheInside as fitting_inside
use Rattle.scp_ledger.specs.scp_wire.specs.contracts.carried.Carried as carried
use Rattle.scp_ledger.specs.scp_wire.specs.contracts.link.Inbound as inbound

of_set : IsSend set.the_row → IsSend message.the_row
of_set s = search (sendable, crosses, boxes.the_send) depth 40

of_message : IsSend message.the_row → IsSend fitting.the_row
of_message m = view_send _ _ _ _ _ (declared_send fitting_inside.the_type (m, tt))

of_fitting : IsSend fitting.the_row → IsSend carried.the_row
of_fitting m = declared_send carried.the_type (conns.the_send, (seqs.the_send, (m, tt)))

side_of_set : IsSend set.the_row → IsSend side.the_row
side_of_set s = search (sendable, crosses) depth 40

of_parts : IsSend carried.the_row → IsSend side.the_row → IsSend inbound.the_row
of_parts c s = variants_send inbound.enum ((conns.the_send, tt), ((c, tt), ((conns.the_send, (s, tt)), ((conns.the_send, (causes.the_send, tt)), ((commands.the_send, tt), tt)))))

pub set_send : IsSend set.the_row
set_send = search (sendable, crosses, send-QuorumSet) depth 40

pub message_send : IsSend message.the_row
message_send = of_set set_send

pub fitting_send : IsSend fitting.the_row
fitting_send = of_message message_send

pub carried_send : IsSend carried.the_row
carried_send = of_fitting fitting_send

pub inbound_send : IsSend inbound.the_row
inbound_send = of_parts carried_send (side_of_set set_send)
