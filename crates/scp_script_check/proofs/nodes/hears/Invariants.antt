use Rattle.std.proofs.Common.{◌≡◌, drop}
use Rattle.std.specs.List.{list_any}
use Rattle.scp_script_check.specs.Nodes.{opens_to}
use Rattle.scp_script_check.proofs.nodes.hears.Given as goal

-- what is left tells it
abbrev pub invariant-loop-command : goal.invariant-loop-command
invariant-loop-command l = list_any (opens_to l.node) (drop l.command-index l.commands) ≡ list_any (opens_to l.node) l.commands
