use Rattle.std.proofs.Common.{◌≡◌, map}
use Rattle.scp_report.specs.scp_script.specs.Nodes.{numbers, set_at}
use Rattle.scp_line.proofs.left.sets_of.Given as goal

-- those of the nodes so far
abbrev pub invariant-loop-index : goal.invariant-loop-index
invariant-loop-index l = l.sets.items ≡ map (λ number. set_at number l.commands) (numbers l.index)
