use Rattle.std.proofs.Common.{◌≡◌, map, take}
use Rattle.std.specs.BTreeSet.{keys}
use Rattle.scp_history.specs.scp_judged.specs.Verdicts.{heard_of}
use Rattle.scp_shown.specs.Spoken.{values_heard}
use Rattle.scp_shown.proofs.values.values_of.Given as goal

-- of the nodes so far
abbrev pub invariant-loop-node : goal.invariant-loop-node
invariant-loop-node l = keys l.values ≡ values_heard (map heard_of l.joined) (take l.node-index l.nodes)
