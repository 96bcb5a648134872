-- What holds of the state of a ballot machine each time its own statement is renewed.
use Rattle.std.specs.Prelude.{◌≡◌, ◌≢◌, ◌≤◌, ◌⊎◌, Some, None, IsSome, IsSomeAnd}
use Rattle.std.specs.Option.{ForSome}
use Rattle.scp_vote.specs.scp_types.specs.declared.ballot.Ballot.{Ballot}
use Rattle.scp_ballot_rules.specs.declared.state.State.{State}
use Rattle.scp_ballot_rules.specs.declared.state.Phase.{Phase}
use Rattle.scp_ballot_rules.specs.declared.state.Phase.TheVariants.{Prepare, Confirm, Externalize}
use Rattle.scp_ballot_rules.specs.Order.{AtMost, FitsUnder, IsOver}

-- There is a value for a raised ballot.
abbrev pub HasValue : State → Type 0
HasValue s = IsSome s.confirmed ⊎ IsSome s.composite ⊎ IsSome s.prepared

-- the low end of a range of commit under its high end
abbrev pub IsLowUnder : Ballot → Ballot → Type 0
IsLowUnder c h = (c.counter ≢ 0) × (c.value ≡ h.value) × (c.counter ≤ h.counter)

-- Neither of the two is over the ballot.
abbrev pub NoneOver : State → Ballot → Type 0
NoneOver s h = (IsOver s.prepared h → ⊥) × (IsOver s.prime h → ⊥)

-- What holds of a state in the phase Prepare each time its own statement is renewed, above all how its ballots lie: prime is below prepared,
-- confirmed at most prepared and at most present, high at most confirmed, and low at most high.
pub record IsPreparing (s : State) : Type 0 where
  pub prime : ForSome s.prime (λ x. IsSomeAnd s.prepared (λ p. FitsUnder x p))
  pub present : ForSome s.present (λ b. (b.counter ≢ 0) × HasValue s)
  pub confirmed : ForSome s.confirmed (λ w. IsSomeAnd s.present (λ b. AtMost w b) × IsSomeAnd s.prepared (λ p. AtMost w p))
  pub counted : ForSome s.confirmed (λ w. w.counter ≢ 0)
  pub settled : ForSome s.confirmed (λ w. ForSome s.present (λ b. w.value ≡ b.value → s.high ≡ Some w))
  pub high : ForSome s.high (λ h. IsSomeAnd s.confirmed (λ w. AtMost h w) × IsSomeAnd s.present (λ b. h.value ≡ b.value))
  pub low : ForSome s.low (λ c. IsSomeAnd s.high (λ h. IsLowUnder c h × NoneOver s h))
  pub vote : ForSome s.high (λ h. s.present ≡ Some h → s.low ≡ None → IsOver s.prepared h ⊎ IsOver s.prime h)

-- a state in the phase Confirm: a range of commit of one value, at most the own ballot, and a prepared of that value or none
pub record IsConfirming (s : State) : Type 0 where
  pub range : IsSomeAnd s.low (λ c. IsSomeAnd s.high (λ h. IsLowUnder c h × IsSomeAnd s.present (λ b. (h.value ≡ b.value) × (h.counter ≤ b.counter))))
  pub prepared : ForSome s.prepared (λ p. IsSomeAnd s.low (λ c. p.value ≡ c.value))
  pub prime : s.prime ≡ None

-- a state in the phase Externalize: a range of commit of one value
pub record IsExternalized (s : State) : Type 0 where
  pub range : IsSomeAnd s.low (λ c. IsSomeAnd s.high (λ h. IsLowUnder c h))

-- what holds of a state in this phase each time its own statement is renewed
abbrev pub IsReadyIn : Phase → State → Type 0
IsReadyIn Prepare s = IsPreparing s
IsReadyIn Confirm s = IsConfirming s
IsReadyIn Externalize s = IsExternalized s

-- the same, by the state's own phase
abbrev pub IsReady : State → Type 0
IsReady s = IsReadyIn s.phase s
