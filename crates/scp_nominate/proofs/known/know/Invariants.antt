use Rattle.std.proofs.Common.{◌≡◌, ◌<◌, ℕ, [], get_or}
use Rattle.scp_driver.specs.Driver.{IsFull}
use Rattle.scp_nominate.specs.inside.Steps.{Learns}
use Rattle.scp_nominate.proofs.known.know.Given as goal

abbrev pub invariant-loop-value : goal.invariant-loop-value
invariant-loop-value g l = Learns (IsFull (g.D.Driver.says.level l.driver) l.slot.0) (λ w. (k : ℕ) × (k < l.value-index) × (get_or l.values k [] ≡ w)) l.fn.known l.known
