use Rattle.std.proofs.Common.{◌≡◌, None, drop, flat_map}
use Rattle.std.specs.List.{last_or}
use Rattle.scp_script.specs.Nodes.{capacities_given}
use Rattle.scp_script.proofs.nodes.capacities_of.Given as goal

-- with what is left it is the last of all
abbrev pub invariant-loop-command : goal.invariant-loop-command
invariant-loop-command l = last_or l.last (flat_map capacities_given (drop l.command-index l.commands)) ≡ last_or None (flat_map capacities_given l.commands)
