use Rattle.std.proofs.Common.{◌≡◌, ◌++◌, flat_map, map}
use Rattle.scp_line.specs.scp_script.specs.Nodes.{numbers}
use Rattle.scp_notices.specs.Lost.{lost_on}
use Rattle.scp_notices.specs.inside.Seen.{lost_in}
use Rattle.scp_notices.proofs.lost.add_node.Given as goal

-- of the nodes so far all was told
abbrev pub invariant-loop-index : goal.invariant-loop-index
invariant-loop-index l = l.out.items ≡ l.initial.out.items ++ flat_map (lost_on l.commands (map lost_in l.reports) l.node) (numbers l.index)
