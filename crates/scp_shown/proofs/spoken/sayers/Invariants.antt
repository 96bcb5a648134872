use Rattle.std.proofs.Common.{map, take}
use Rattle.scp_history.specs.scp_judged.specs.Verdicts.{heard_of}
use Rattle.scp_shown.specs.Spoken.{AreSayers}
use Rattle.scp_shown.proofs.spoken.sayers.Given as goal

-- of the nodes so far
abbrev pub invariant-loop-node : goal.invariant-loop-node
invariant-loop-node l = AreSayers (map heard_of l.joined) l.word l.value (take l.node-index l.nodes) l.found.items
