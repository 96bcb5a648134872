use Rattle.std.proofs.Common.{◌≡◌}
use Rattle.scp_script_short.specs.Lines.{opens_of}
use Rattle.scp_script_short.proofs.writing.opens_of.Given as goal

abbrev pub invariant-loop-index : goal.invariant-loop-index
invariant-loop-index l = l.lines.items ≡ opens_of l.index l.node
