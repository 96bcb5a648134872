use Rattle.std.proofs.Common.{◌≡◌, drop}
use Rattle.std.specs.List.{list_any}
use Rattle.scp_script_check.specs.Nodes.{is_own}
use Rattle.scp_script_check.proofs.nodes.is_commanded.Given as goal

-- what is left tells it
abbrev pub invariant-loop-command : goal.invariant-loop-command
invariant-loop-command l = list_any (is_own l.node) (drop l.command-index l.commands) ≡ list_any (is_own l.node) l.commands
