use Rattle.std.proofs.Common.{◌≡◌, drop}
use Rattle.std.specs.List.{list_any}
use Rattle.scp_script_hints.specs.Hints.{wakes}
use Rattle.scp_script_hints.proofs.nodes.is_woken.Given as goal

-- what is left tells it
abbrev pub invariant-loop-command : goal.invariant-loop-command
invariant-loop-command l = list_any (wakes l.node) (drop l.command-index l.commands) ≡ list_any (wakes l.node) l.commands
