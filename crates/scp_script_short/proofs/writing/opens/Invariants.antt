use Rattle.std.proofs.Common.{◌≡◌, flat_map}
use Rattle.scp_script_short.specs.Lines.{opens_of, numbers}
use Rattle.scp_script_short.proofs.writing.opens.Given as goal

abbrev pub invariant-loop-index : goal.invariant-loop-index
invariant-loop-index l = l.lines.items ≡ flat_map (opens_of l.nodes) (numbers l.index)
