use Rattle.scp_threaded_script.proofs.Starting.{AreStarted}
use Rattle.scp_threaded_script.proofs.running.start_all.Given as goal

abbrev pub invariant-loop-own : goal.invariant-loop-own
invariant-loop-own g l = AreStarted l.fn.keeps l.commands l.fn.outlets.items l.yielded l.own-iterator.rest.items l.fn.takers.items l.rows.rest.items l.nodes.items
