use Rattle.std.proofs.Common.{◌≡◌, map, take}
use Rattle.scp_live_process.specs.Stands.{naming_in}
use Rattle.scp_live_process.proofs.stand.each_name.Given as goal

abbrev pub invariant-loop-node : goal.invariant-loop-node
invariant-loop-node l = l.names.items ≡ map naming_in (take l.node-index l.nodes)
