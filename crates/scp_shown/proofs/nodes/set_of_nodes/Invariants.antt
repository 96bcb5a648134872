use Rattle.std.proofs.Common.{◌≡◌, map, take}
use Rattle.std.specs.BTreeSet.{keys}
use Rattle.scp_history.specs.scp_judged.specs.Verdicts.{heard_of}
use Rattle.scp_shown.specs.Spoken.{nodes_heard}
use Rattle.scp_shown.proofs.nodes.set_of_nodes.Given as goal

-- of the statements so far
abbrev pub invariant-loop-said : goal.invariant-loop-said
invariant-loop-said l = keys l.nodes ≡ nodes_heard (map heard_of (take l.said-index l.joined))
