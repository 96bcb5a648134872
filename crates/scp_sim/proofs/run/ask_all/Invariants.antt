use Rattle.std.proofs.Common.{All}
use Rattle.scp_line.specs.scp_script.specs.Nodes.{NamesNodes}
use Rattle.scp_sim.proofs.run.ask_all.Given as goal

-- those so far do
abbrev pub invariant-loop-node : goal.invariant-loop-node
invariant-loop-node l = All NamesNodes l.commands.items
