use Rattle.std.proofs.Common.{◌≡◌}
use Rattle.scp_script_short.specs.Lines.{asks}
use Rattle.scp_script_short.proofs.writing.asks.Given as goal

abbrev pub invariant-loop-index : goal.invariant-loop-index
invariant-loop-index l = l.lines.items ≡ asks l.node l.peer l.index
