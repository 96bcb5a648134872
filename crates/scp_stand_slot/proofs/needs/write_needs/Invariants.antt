use Rattle.std.proofs.Common.{◌≡◌, ◌++◌, drop, flat_map, string_bytes}
use Rattle.scp_stand_slot.specs.Machine.{need_text}
use Rattle.scp_stand_slot.proofs.needs.write_needs.Given as goal

-- with what is left it is all
abbrev pub invariant-loop-need : goal.invariant-loop-need
invariant-loop-need l = string_bytes l.out ++ flat_map (need_text l.names l.me l.slot) (drop l.need-index l.needs) ≡ string_bytes l.initial.out ++ flat_map (need_text l.names l.me l.slot) l.needs
