use Rattle.std.proofs.Common.{◌+◌, string_bytes}
use Rattle.scp_stand_node.specs.scp_stand_slot.specs.Adding.{Adds}
use Rattle.scp_stand_node.specs.Slots.{AreTexts}
use Rattle.scp_trace.specs.Standing.{TellsLast}
use Rattle.scp_trace.proofs.ending.write_all.Given as goal

-- of the nodes so far all was told
abbrev pub invariant-loop-index : goal.invariant-loop-index
invariant-loop-index l = Adds (string_bytes l.fn.out) (string_bytes l.out) (AreTexts (λ index. TellsLast l.anew l.playing.names.now l.playing.commands.now l.network.nodes (index + 1)) l.index)
