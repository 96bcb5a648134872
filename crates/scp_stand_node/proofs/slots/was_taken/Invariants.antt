use Rattle.std.proofs.Common.{◌≡◌, drop}
use Rattle.scp_stand_node.specs.Slots.{is_taken}
use Rattle.scp_stand_node.proofs.slots.was_taken.Given as goal

-- what is left tells it
abbrev pub invariant-loop-index : goal.invariant-loop-index
invariant-loop-index l = is_taken l.number l.slot (drop l.index l.played) ≡ is_taken l.number l.slot l.played
