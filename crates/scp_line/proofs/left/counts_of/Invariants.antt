use Rattle.std.proofs.Common.{◌≡◌, map}
use Rattle.scp_line.specs.Left.{count_on}
use Rattle.scp_line.proofs.left.counts_of.Given as goal

abbrev pub invariant-loop-conn : goal.invariant-loop-conn
invariant-loop-conn l = l.counts.items ≡ map (count_on l.messages) (map (λ c. c.now) l.yielded)
