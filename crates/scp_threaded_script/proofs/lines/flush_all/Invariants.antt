use Rattle.scp_threaded_script.specs.inside.Played.{AreUnchanged}
use Rattle.scp_threaded_script.proofs.lines.flush_all.Given as goal

abbrev pub invariant-loop-node : goal.invariant-loop-node
invariant-loop-node l = AreUnchanged l.fn.nodes.items l.node-items
