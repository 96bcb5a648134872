use Rattle.std.proofs.Common.{map, take}
use Rattle.scp_history.specs.scp_judged.specs.Verdicts.{heard_of, heard_by}
use Rattle.scp_history.specs.scp_judged.specs.Backed.{IsBacked}
use Rattle.scp_shown.specs.Listed.{Picks}
use Rattle.scp_shown.specs.ValueLines.{IsNotBacked}
use Rattle.scp_shown.proofs.parts.by_backed.Given as goal

-- of the nodes so far
abbrev pub invariant-loop-node : goal.invariant-loop-node
invariant-loop-node l = Picks (IsBacked (heard_by (map heard_of l.joined)) l.value) (take l.node-index l.nodes) l.parts.holds.items × Picks (IsNotBacked (heard_by (map heard_of l.joined)) l.value) (take l.node-index l.nodes) l.parts.fails.items
