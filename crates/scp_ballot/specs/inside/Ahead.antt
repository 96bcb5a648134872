-- Which nodes are ahead of a counter.
-- No public clause reaches this: nothing here need be believed.
use Rattle.std.specs.Prelude.{◌≡◌, ◌≢◌, ◌<◌, ◌≤◌, ◌↔◌, ◌⊎◌, Bool, true, ℕ, Option, Some, None, IsSomeAnd}
use Rattle.std.specs.Option.{ForSome}
use Rattle.scp_ballot_rules.specs.scp_types.specs.declared.names.NodeId.{NodeId}
use Rattle.scp_ballot_rules.specs.scp_vote.specs.Board.{Seen}
use Rattle.scp_ballot_rules.specs.Owed.{AreAheadOf, counter_in}

-- another node, whose counter is above n
abbrev pub IsAhead : Seen → ℕ → NodeId → Type 0
IsAhead b n v = (v ≢ b.me) × IsSomeAnd (b.statement v) (λ p. n < counter_in p)

-- exactly those are picked
abbrev pub PicksAhead : Seen → ℕ → (NodeId → Bool) → Type 0
PicksAhead b n nodes = (v : NodeId) → (nodes v ≡ true) ↔ IsAhead b n v

-- the greatest counter so far, or the floor
abbrev pub or_floor : ℕ → Option ℕ → ℕ
or_floor n None = n
or_floor n (Some top) = top

-- the counter if it is above n, lower than the least so far, and free, so that the nodes above it don't block the local set; else the least
abbrev pub Lessens : Seen → ℕ → ℕ → ℕ → ℕ → Type 0
Lessens b n counter least new =
    ((new ≡ counter) × (n < counter) × (counter < least) × ¬ (AreAheadOf b counter)) ⊎ ((new ≡ least) × (n < counter → ¬ (AreAheadOf b counter) → least ≤ counter))

-- no free counter of a statement above n is less
abbrev pub IsLeastOfStatement : Seen → ℕ → ℕ → NodeId → Type 0
IsLeastOfStatement b n least v = ForSome (b.statement v) (λ p. n < counter_in p → ¬ (AreAheadOf b (counter_in p)) → least ≤ counter_in p)
