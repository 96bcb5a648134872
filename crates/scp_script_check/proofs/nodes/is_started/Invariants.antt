use Rattle.std.proofs.Common.{◌≡◌, drop}
use Rattle.std.specs.List.{list_any}
use Rattle.scp_script_check.specs.Nodes.{starts_it}
use Rattle.scp_script_check.proofs.nodes.is_started.Given as goal

-- what is left tells it
abbrev pub invariant-loop-command : goal.invariant-loop-command
invariant-loop-command l = list_any (starts_it l.node) (drop l.command-index l.commands) ≡ list_any (starts_it l.node) l.commands
