use Rattle.std.proofs.Common.{◌≡◌, drop}
use Rattle.std.specs.List.{list_any}
use Rattle.scp_stand_node.specs.Links.{sends}
use Rattle.scp_stand_node.proofs.links.is_driven.Given as goal

-- what is left tells it
abbrev pub invariant-loop-command : goal.invariant-loop-command
invariant-loop-command l = list_any (sends l.from l.to) (drop l.command-index l.commands) ≡ list_any (sends l.from l.to) l.commands
