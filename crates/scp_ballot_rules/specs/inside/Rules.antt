-- What each rule of the ballot machine does to its state, given what the node sees.
-- No public clause reaches these definitions: nothing here need be believed.
use Rattle.std.specs.Prelude.{◌≡◌, ◌<◌, ◌⊎◌, ℕ, List, Some, None, IsSome, IsSomeAnd}
use Rattle.std.specs.Option.{ForSome}
use Rattle.scp_vote.specs.Board.{Seen}
use Rattle.scp_ballot_rules.specs.declared.state.State.{State}
use Rattle.scp_ballot_rules.specs.declared.state.Phase.TheVariants.{Prepare, Confirm}
use Rattle.scp_ballot_rules.specs.Own.{counter_of}
use Rattle.scp_ballot_rules.specs.Ready.{HasValue}
use Rattle.scp_ballot_rules.specs.Owed.{AreAheadOf}
use Rattle.scp_ballot_rules.specs.Rules.{AcceptsPrepared, AcceptsMore, ConfirmsPrepared, AcceptsCommit, ConfirmsCommit, raised_value, Grows}

-- Raise the counter, in the phase Prepare.
pub record Raises (old next : State) : Type 0 where
  pub frame : next ≡ record old { present = next.present; high = next.high; low = next.low }
  pub value : HasValue old
  pub present : IsSomeAnd next.present (λ b. (counter_of old.present < b.counter) × ForSome old.confirmed (λ w. b.value ≡ w.value))
  pub raised : IsSomeAnd next.present (λ b. raised_value old.confirmed old.composite old.prepared ≡ Some b.value)
  pub high : ForSome old.confirmed (λ w. next.high ≡ Some w)
  pub no_high : old.confirmed ≡ None → next.high ≡ old.high
  pub low : (next.low ≡ None) ⊎ ((next.low ≡ old.low) × ForSome old.low (λ c. IsSomeAnd next.present (λ b. c.value ≡ b.value)))

-- Raise the counter because the others are ahead, in the phase Prepare.
pub record CatchesUp (b : Seen) (old next : State) : Type 0 where
  pub raises : Raises old next
  pub ahead : AreAheadOf b (counter_of old.present)

-- Raise the counter, in the phase Confirm.
pub record RaisesMore (old next : State) : Type 0 where
  pub frame : next ≡ record old { present = next.present }
  pub present : IsSomeAnd next.present (λ b. (counter_of old.present < b.counter) × IsSomeAnd old.low (λ c. b.value ≡ c.value))

-- A composite comes: it is kept, and if there is no ballot yet, the first is made of it.
pub record Composes (z : List ℕ) (old next : State) : Type 0 where
  pub frame : next ≡ record old { present = next.present; composite = Some z }
  pub present : ((next.present ≡ old.present) × IsSome old.present) ⊎ ((old.present ≡ None) × (next.present ≡ Some (record { counter = 1; value = z })))

-- One rule was applied.
abbrev pub IsStep : Seen → State → State → Type 0
IsStep b old next =
    ((old.phase ≡ Prepare) × (AcceptsPrepared b old next ⊎ ConfirmsPrepared b old next ⊎ AcceptsCommit b old next ⊎ CatchesUp b old next))
    ⊎ ((old.phase ≡ Confirm) × (AcceptsMore b old next ⊎ (AcceptsCommit b old next × Grows old next) ⊎ ConfirmsCommit b old next ⊎ RaisesMore old next))

-- An input or a rule changed the state: one rule, or a composite or a timer in the phase Prepare.
abbrev pub IsChange : Seen → State → State → Type 0
IsChange b old next = IsStep b old next ⊎ ((old.phase ≡ Prepare) × (z : List ℕ) × Composes z old next) ⊎ ((old.phase ≡ Prepare) × Raises old next)
