use Rattle.std.proofs.Common.{◌≡◌, map}
use Rattle.scp_script.specs.Nodes.{id_of, numbers}
use Rattle.scp_script.proofs.nodes.ids.Given as goal

abbrev pub invariant-loop-index : goal.invariant-loop-index
invariant-loop-index l = l.ids.items ≡ map id_of (numbers l.index)
