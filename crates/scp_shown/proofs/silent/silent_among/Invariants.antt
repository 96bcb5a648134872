use Rattle.std.proofs.Common.{map, take}
use Rattle.scp_history.specs.scp_judged.specs.Verdicts.{heard_of}
use Rattle.scp_shown.specs.Listed.{Picks}
use Rattle.scp_shown.specs.Silent.{IsSilent}
use Rattle.scp_shown.proofs.silent.silent_among.Given as goal

-- of the nodes so far
abbrev pub invariant-loop-node : goal.invariant-loop-node
invariant-loop-node l = Picks (IsSilent (map heard_of l.joined)) (take l.node-index l.nodes) l.silent.items
