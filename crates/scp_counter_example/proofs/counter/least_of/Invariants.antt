use Rattle.std.proofs.Common.{◌≡◌, drop}
use Rattle.scp_counter_example.specs.inside.Counter.{least, least_from}
use Rattle.scp_counter_example.proofs.counter.least_of.Given as goal

abbrev pub invariant-loop-value : goal.invariant-loop-value
invariant-loop-value l = least_from l.best (drop l.value-index l.value-items) ≡ least l.values
