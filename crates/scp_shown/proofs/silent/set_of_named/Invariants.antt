use Rattle.std.proofs.Common.{◌≡◌, map, take}
use Rattle.std.specs.BTreeSet.{keys}
use Rattle.scp_history.specs.scp_judged.specs.Verdicts.{heard_of}
use Rattle.scp_shown.specs.Silent.{nodes_named}
use Rattle.scp_shown.proofs.silent.set_of_named.Given as goal

-- by the nodes so far
abbrev pub invariant-loop-node : goal.invariant-loop-node
invariant-loop-node l = keys l.named ≡ nodes_named (map heard_of l.joined) (take l.node-index l.nodes)
