use Rattle.std.proofs.Common.{◌≡◌, drop}
use Rattle.std.specs.List.{list_any}
use Rattle.scp_script_check.specs.Nodes.{sends_for}
use Rattle.scp_script_check.proofs.nodes.is_sent_for.Given as goal

-- what is left tells it
abbrev pub invariant-loop-command : goal.invariant-loop-command
invariant-loop-command l = list_any (sends_for l.node) (drop l.command-index l.commands) ≡ list_any (sends_for l.node) l.commands
