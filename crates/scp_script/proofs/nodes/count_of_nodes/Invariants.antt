use Rattle.std.proofs.Common.{◌≡◌, drop, ◌≤◌, fold}
use Rattle.scp_wire.specs.scp_types.specs.declared.limits.TheConstants.{NODE_LIMIT}
use Rattle.scp_script.specs.Script.{counted, node_count}
use Rattle.scp_script.proofs.nodes.count_of_nodes.Given as goal

-- with what is left it is the count of all
abbrev pub invariant-loop-command : goal.invariant-loop-command
invariant-loop-command l = record {
  counts : fold counted l.count (drop l.command-index l.commands) ≡ node_count l.commands;
  few : l.count ≤ NODE_LIMIT;
}
