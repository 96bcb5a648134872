-- How much a queue or a channel may hold.
use Rattle.std.specs.Prelude.{ℕ, ◌≤◌}
use Rattle.scp_types.specs.declared.limits.TheConstants.{CAPACITY_LIMIT}
use Rattle.scp_types.specs.declared.capacities.Capacities.{Capacities}

-- how much a channel may hold
abbrev pub IsInRange : ℕ → Type 0
IsInRange capacity = (1 ≤ capacity) × (capacity ≤ CAPACITY_LIMIT)

-- each of the four capacities is in range
abbrev pub AreInRange : Capacities → Type 0
AreInRange c = IsInRange c.link × IsInRange c.inbox × IsInRange c.ready × IsInRange c.decided
