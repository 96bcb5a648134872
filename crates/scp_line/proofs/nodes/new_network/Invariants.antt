use Rattle.std.proofs.Common.{◌≡◌, drop}
use Rattle.std.specs.Prelude.{fold}
use Rattle.scp_line.specs.Play.{driven_by, driven_in}
use Rattle.scp_line.proofs.nodes.new_network.Given as goal

-- with what is left it is all
abbrev pub invariant-loop-command : goal.invariant-loop-command
invariant-loop-command l = record {
  nodes : l.network.nodes ≡ l.initial.network.nodes;
  driven : fold driven_by l.network.driven (drop l.command-index l.commands) ≡ driven_in l.commands;
}
