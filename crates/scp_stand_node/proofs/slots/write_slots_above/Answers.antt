use Rattle.std.proofs.Common.{string_bytes}
use Rattle.scp_stand_node.specs.Links.{script_of}
use Rattle.scp_stand_node.specs.Slots.{IsTextAbove}
use Rattle.scp_stand_node.proofs.Telling.{no_text, one_text}
use Rattle.scp_stand_node.proofs.slots.write_slots_above.Goals as goal

pub loop-place-init : goal.loop-place-init
loop-place-init c = no_text (IsTextAbove c.args.seen.names.now c.args.members.now (script_of c.args.seen.lines) c.args.seen.node.now) (string_bytes c.args.out.now)

pub loop-place-preserved : goal.loop-place-preserved
loop-place-preserved c = one_text (IsTextAbove c.args.seen.names.now c.args.members.now (script_of c.args.seen.lines) c.args.seen.node.now) c.loop-place.place (string_bytes c.args.out.now) (string_bytes c.loop-place.out) (string_bytes c.write_slot_above.new.out) c.loop-place.invariant c.in_ok-write_slot_above.ensures.added
