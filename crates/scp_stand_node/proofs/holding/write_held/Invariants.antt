use Rattle.std.proofs.Common.{◌≡◌, ◌++◌, string_bytes, flat_map}
use Rattle.scp_stand_slot.specs.scp_script.specs.Nodes.{numbers}
use Rattle.scp_stand_node.specs.Holding.{life_text}
use Rattle.scp_stand_node.proofs.holding.write_held.Given as goal

abbrev pub invariant-loop-index : goal.invariant-loop-index
invariant-loop-index l = string_bytes l.out ≡ string_bytes l.initial.out ++ flat_map (life_text l.names l.node l.link) (numbers l.index)
