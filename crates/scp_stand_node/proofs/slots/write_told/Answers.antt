use Rattle.std.proofs.Common.{string_bytes, subst}
use Rattle.scp_turn.specs.scp_types.specs.declared.names.NodeId.{NodeId}
use Rattle.scp_stand_slot.specs.Adding.{Adds}
use Rattle.scp_stand_slot.specs.Machine.{IsMachineText}
use Rattle.scp_stand_node.specs.Links.{script_of}
use Rattle.scp_stand_node.specs.Slots.{IsHidden}
use Rattle.scp_stand_node.proofs.Whole.{machine_told}
use Rattle.scp_stand_node.proofs.slots.write_told.Goals as goal

pub returns-clause-added : goal.returns-clause-added
returns-clause-added c =
    let seen = c.args.seen in
    machine_told _ c.is_left_out.result (IsHidden seen.node.now.config.me c.args.slot seen.node.now.ledger.journal (script_of seen.lines) c.args.machine.now) (string_bytes c.args.out.now) (string_bytes c.write_machine.new.out) c.is_left_out.ensures c.if-is_left_out.false
    (subst (λ (me : NodeId). Adds (string_bytes c.args.out.now) (string_bytes c.write_machine.new.out) (IsMachineText seen.names.now me c.args.members.now c.args.slot c.args.machine.now)) c.me.ensures c.in_ok-write_machine.ensures.added)
