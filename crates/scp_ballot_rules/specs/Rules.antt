-- What each rule of the ballot machine does to its state, given what the node sees.
use Rattle.std.specs.Prelude.{◌≡◌, ◌≢◌, ◌<◌, ◌≤◌, ◌⊎◌, ℕ, List, Option, Some, None, IsSomeAnd}
use Rattle.std.specs.Option.{ForSome}
use Rattle.scp_vote.specs.scp_types.specs.declared.ballot.Ballot.{Ballot}
use Rattle.scp_vote.specs.declared.claim.Claim.TheVariants.{Prepared, Committed}
use Rattle.scp_vote.specs.Board.{Seen, Accepted, Confirmed}
use Rattle.scp_ballot_rules.specs.declared.state.State.{State}
use Rattle.scp_ballot_rules.specs.declared.state.Phase.TheVariants.{Confirm, Externalize}
use Rattle.scp_vote.specs.scp_envelope.specs.Ballots.{IsLess}
use Rattle.scp_ballot_rules.specs.Order.{AtMost, FitsUnder, IsOver, IsAbove}
use Rattle.scp_ballot_rules.specs.Own.{counter_of}
use Rattle.scp_ballot_rules.specs.Ready.{NoneOver}

-- the ballot is the state's prepared or prime
abbrev pub IsHeld : State → Ballot → Type 0
IsHeld s x = (s.prepared ≡ Some x) ⊎ (s.prime ≡ Some x)

-- Accept a ballot as prepared, in the phase Prepare.
pub record AcceptsPrepared (b : Seen) (old next : State) : Type 0 where
  pub frame : next ≡ record old { prepared = next.prepared; prime = next.prime; low = next.low }
  pub prepared : (next.prepared ≡ old.prepared) ⊎ IsSomeAnd next.prepared (λ x. Accepted b (Prepared x) × IsAbove x old.prepared)
  pub prime : ForSome next.prime (λ x. (IsHeld old x ⊎ Accepted b (Prepared x)) × IsSomeAnd next.prepared (λ p. FitsUnder x p))
  pub kept : (x : Ballot) → IsHeld old x → IsSomeAnd next.prepared (λ p. FitsUnder x p) → IsSomeAnd next.prime (λ y. AtMost x y)
  pub low : ((next.low ≡ None) × IsSomeAnd old.high (λ h. IsOver next.prepared h ⊎ IsOver next.prime h)) ⊎ ((next.low ≡ old.low) × ForSome old.high (λ h. NoneOver next h))

-- Accept a further ballot as prepared, in the phase Confirm.
pub record AcceptsMore (b : Seen) (old next : State) : Type 0 where
  pub frame : next ≡ record old { prepared = next.prepared }
  pub prepared : IsSomeAnd next.prepared (λ x. Accepted b (Prepared x) × IsAbove x old.prepared × IsSomeAnd old.low (λ c. x.value ≡ c.value) × (x.counter ≢ 0))

-- How a newly confirmed ballot enters the state.
abbrev pub Joins : Ballot → State → State → Type 0
Joins x old next =
    (ForSome old.present (λ b. IsLess b x) × (next.present ≡ Some x) × (next.high ≡ Some x))
    ⊎ (IsSomeAnd old.present (λ b. AtMost x b × (x.value ≡ b.value)) × (next.present ≡ old.present) × (next.high ≡ Some x))
    ⊎ (IsSomeAnd old.present (λ b. AtMost x b × (x.value ≢ b.value)) × (next.present ≡ old.present) × (next.high ≡ old.high))

-- low is kept if it has present's value. Else low becomes present, if present is the high end and neither prepared nor
-- prime is over it. Else low is absent.
abbrev pub LowAfter : State → State → Type 0
LowAfter old next =
    ((next.low ≡ old.low) × IsSomeAnd old.low (λ c. IsSomeAnd next.present (λ b. c.value ≡ b.value)))
    ⊎ (ForSome old.low (λ c. ForSome next.present (λ b. c.value ≢ b.value))
    × IsSomeAnd next.high (λ h. (next.present ≡ Some h) × (next.low ≡ Some h) × NoneOver old h))
    ⊎ ((next.low ≡ None) × ForSome next.high (λ h. next.present ≡ Some h → IsOver old.prepared h ⊎ IsOver old.prime h) × ForSome old.low (λ c. ForSome next.present (λ b. c.value ≢ b.value)))

-- Confirm a ballot as prepared, in the phase Prepare.
pub record ConfirmsPrepared (b : Seen) (old next : State) : Type 0 where
  pub frame : next ≡ record old { present = next.present; confirmed = next.confirmed; high = next.high; low = next.low }
  pub confirmed : ((next.confirmed ≡ old.confirmed) × (next.present ≡ old.present) × (next.high ≡ old.high))
      ⊎ IsSomeAnd next.confirmed (λ x. (x.counter ≢ 0) × Confirmed b (Prepared x) × IsAbove x old.confirmed × Joins x old next)
  pub low : LowAfter old next

-- Accept a commit, in the phases Prepare and Confirm.
pub record AcceptsCommit (b : Seen) (old next : State) : Type 0 where
  pub phase : next.phase ≡ Confirm
  pub range : IsSomeAnd next.low (λ c. IsSomeAnd next.high (λ h. (c.counter ≢ 0) × (c.value ≡ h.value) × (c.counter ≤ h.counter) × Accepted b (Committed c.counter h.counter h.value)
      × IsSomeAnd next.present (λ p. (h.value ≡ p.value) × (h.counter ≤ p.counter))))
  pub prepared : ForSome next.prepared (λ x. IsHeld old x × IsSomeAnd next.low (λ c. x.value ≡ c.value))
  pub prime : next.prime ≡ None
  pub composite : next.composite ≡ old.composite

-- Confirm a commit, in the phase Confirm.
pub record ConfirmsCommit (b : Seen) (old next : State) : Type 0 where
  pub phase : next.phase ≡ Externalize
  pub range : IsSomeAnd next.low (λ c. IsSomeAnd next.high (λ h. (c.counter ≢ 0) × (c.value ≡ h.value) × (c.counter ≤ h.counter) × Confirmed b (Committed c.counter h.counter h.value)))
  pub composite : next.composite ≡ old.composite

-- the value for a raised ballot, in the phase Prepare: that of confirmed, else the composite, else that of prepared
abbrev pub raised_value : Option Ballot → Option (List ℕ) → Option Ballot → Option (List ℕ)
raised_value (Some w) z p = Some w.value
raised_value None (Some z) p = Some z
raised_value None None (Some p) = Some p.value
raised_value None None None = None

-- What accepting a further commit does besides, in the phase Confirm.
pub record Grows (old next : State) : Type 0 where
  pub prepared : next.prepared ≡ old.prepared
  pub high : counter_of old.high < counter_of next.high
  pub present : ForSome old.present (λ b. IsSomeAnd next.present (λ p. AtMost b p))
