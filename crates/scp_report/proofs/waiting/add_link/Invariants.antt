use Rattle.std.proofs.Common.{◌≡◌, ◌++◌, flat_map}
use Rattle.scp_core.specs.scp_wire.specs.Connections.{conn_at}
use Rattle.scp_script.specs.Nodes.{numbers}
use Rattle.scp_report.specs.Waiting.{parked_of}
use Rattle.scp_report.proofs.waiting.add_link.Given as goal

-- the lives so far
abbrev pub invariant-loop-index : goal.invariant-loop-index
invariant-loop-index l = l.parked.items ≡ l.initial.parked.items ++ flat_map (λ life. parked_of l.node (conn_at l.peer l.node.config.me life)) (numbers l.index)
