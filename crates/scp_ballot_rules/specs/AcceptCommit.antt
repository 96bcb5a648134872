-- Rule 3: accept a commit (the SCP draft, in this project's profile). What it makes of the state over a board.
use Rattle.std.specs.Prelude.{◌≡◌, ◌≢◌, ◌<◌, ◌⊎◌, ℕ, List, Option, Some, None}
use Rattle.std.specs.Option.{ForSome}
use Rattle.std.specs.declared.cmp.Ordering.TheVariants.{Less}
use Rattle.scp_vote.specs.scp_types.specs.declared.ballot.Ballot.{Ballot}
use Rattle.scp_vote.specs.scp_envelope.specs.Ballots.{IsLess, value_cmp}
use Rattle.scp_vote.specs.Board.{Seen, Accepted}
use Rattle.scp_ballot_rules.specs.declared.state.State.{State}
use Rattle.scp_ballot_rules.specs.declared.state.Phase.{Phase}
use Rattle.scp_ballot_rules.specs.declared.state.Phase.TheVariants.{Prepare, Confirm, Externalize}
use Rattle.scp_ballot_rules.specs.Own.{counter_of}
use Rattle.scp_ballot_rules.specs.Greatest.{Where, IsOf, ballot_at}
use Rattle.scp_ballot_rules.specs.Range.{IsRangeOf, HasNone}

-- Rule 3 takes a range: low becomes (lo, v) and high (hi, v). present becomes (hi, v) if it is absent, less than that or
-- incompatible with it. The phase becomes Confirm, and prime is absent.
pub record TakesRange (v : List ℕ) (lo hi : ℕ) (s t : State) : Type 0 where
  pub frame : t ≡ record s { phase = Confirm; present = t.present; prepared = t.prepared; prime = None; high = Some (ballot_at hi v); low = Some (ballot_at lo v) }
  pub present : Where (ForSome s.present (λ x. IsLess x (ballot_at hi v) ⊎ (x.value ≢ v))) (Some (ballot_at hi v)) s.present t.present

-- prepared if it has the value v, else prime if that has it, else none
abbrev pub IsHeldOf : List ℕ → State → Option Ballot → Type 0
IsHeldOf v s o = (IsOf v s.prepared × (o ≡ s.prepared)) ⊎ ((IsOf v s.prepared → ⊥) × Where (IsOf v s.prime) s.prime None o)

-- the range of the first value, by bytes, that has one
pub record TakesFirst (b : Seen) (v : List ℕ) (lo hi : ℕ) (s t : State) : Type 0 where
  pub range : IsRangeOf (λ c. Accepted b c) b v lo hi
  pub first : (w : List ℕ) → value_cmp w v ≡ Less → HasNone (λ c. Accepted b c) b w 0
  pub takes : TakesRange v lo hi s t
  pub prepared : IsHeldOf v s t.prepared

-- a range of low's value, whose hi is above high's counter
pub record TakesHigher (b : Seen) (v : List ℕ) (lo hi : ℕ) (s t : State) : Type 0 where
  pub of_low : IsOf v s.low
  pub range : IsRangeOf (λ c. Accepted b c) b v lo hi
  pub above : counter_of s.high < hi
  pub takes : TakesRange v lo hi s t
  pub prepared : t.prepared ≡ s.prepared

-- what accepting a commit does, by the phase; if there is no range to take, nothing
abbrev pub AcceptCommit : Phase → Seen → State → State → Type 0
AcceptCommit Prepare b s t = ((v : List ℕ) × (lo : ℕ) × (hi : ℕ) × TakesFirst b v lo hi s t) ⊎ (((v : List ℕ) → HasNone (λ c. Accepted b c) b v 0) × (t ≡ s))
AcceptCommit Confirm b s t = ((v : List ℕ) × (lo : ℕ) × (hi : ℕ) × TakesHigher b v lo hi s t) ⊎ (((v : List ℕ) → IsOf v s.low → HasNone (λ c. Accepted b c) b v (counter_of s.high)) × (t ≡ s))
AcceptCommit Externalize b s t = t ≡ s
