use Rattle.std.proofs.Common.{◌≡◌, ◌++◌, length}
use Rattle.scp_threaded_node.specs.Sources.{AreSources}
use Rattle.scp_threaded_script.specs.Lines.{driven_to}
use Rattle.scp_threaded_script.specs.inside.Outlets.{AreTakenFrom}
use Rattle.scp_threaded_script.proofs.running.sources_of.Given as goal

-- one for each end so far
abbrev pub invariant-loop-taker : goal.invariant-loop-taker
invariant-loop-taker l =
    (l.fn.takers.items ≡ l.yielded ++ l.taker-iterator.rest.items)
    × (length l.sources.items ≡ length l.yielded)
    × AreSources (driven_to l.commands l.to) l.sources.items
    × AreTakenFrom l.yielded l.sources.items
