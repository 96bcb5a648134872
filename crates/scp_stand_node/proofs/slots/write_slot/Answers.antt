use Rattle.std.proofs.Common.{string_bytes}
use Rattle.scp_stand_node.specs.Links.{script_of}
use Rattle.scp_stand_node.proofs.Whole.{slot_told}
use Rattle.scp_stand_node.proofs.slots.write_slot.Goals as goal

pub returns-clause-added : goal.returns-clause-added
returns-clause-added c = slot_told c.args.seen.names.now c.args.members.now (script_of c.args.seen.lines) c.args.seen.node.now c.args.lowest c.args.slot
    (string_bytes c.args.out.now) (string_bytes c.write_decided.new.out) (string_bytes c.write_asked.new.out) (string_bytes c.write_its_machine.new.out)
    c.requires.lowest c.in_ok-write_decided.ensures.added c.in_ok-write_asked.ensures.added c.in_ok-write_its_machine.ensures.added
