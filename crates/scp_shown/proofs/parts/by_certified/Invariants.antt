use Rattle.std.proofs.Common.{map, take}
use Rattle.scp_history.specs.scp_judged.specs.Verdicts.{heard_of, heard_by}
use Rattle.scp_shown.specs.Listed.{Picks}
use Rattle.scp_shown.specs.ValueLines.{IsCertified, IsNotCertified}
use Rattle.scp_shown.proofs.parts.by_certified.Given as goal

-- of the nodes so far
abbrev pub invariant-loop-node : goal.invariant-loop-node
invariant-loop-node l = Picks (IsCertified (heard_by (map heard_of l.joined))) (take l.node-index l.nodes) l.parts.holds.items × Picks (IsNotCertified (heard_by (map heard_of l.joined))) (take l.node-index l.nodes) l.parts.fails.items
