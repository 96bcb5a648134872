use Rattle.std.proofs.Common.{◌≡◌}
use Rattle.scp_script_short.specs.Lines.{round_of_each}
use Rattle.scp_script_short.proofs.writing.one_round.Given as goal

abbrev pub invariant-loop-index : goal.invariant-loop-index
invariant-loop-index l = l.lines.items ≡ round_of_each l.index l.slot
