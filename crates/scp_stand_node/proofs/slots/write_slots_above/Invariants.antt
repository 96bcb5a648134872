use Rattle.std.proofs.Common.{string_bytes}
use Rattle.scp_stand_slot.specs.Adding.{Adds}
use Rattle.scp_stand_node.specs.Links.{script_of}
use Rattle.scp_stand_node.specs.Slots.{IsTextAbove, AreTexts}
use Rattle.scp_stand_node.proofs.slots.write_slots_above.Given as goal

abbrev pub invariant-loop-place : goal.invariant-loop-place
invariant-loop-place l = Adds (string_bytes l.initial.out) (string_bytes l.out) (AreTexts (IsTextAbove l.seen.names.now l.members (script_of l.seen.lines) l.seen.node.now) l.place)
