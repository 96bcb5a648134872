-- Rule 1: accept a ballot as prepared (the SCP draft, in this project's profile). What it makes of the state over a board.
use Rattle.std.specs.Prelude.{◌≡◌, ◌⊎◌, Option, Some, None, IsSomeAnd}
use Rattle.scp_vote.specs.scp_types.specs.declared.ballot.Ballot.{Ballot}
use Rattle.scp_vote.specs.declared.claim.Claim.TheVariants.{Prepared}
use Rattle.scp_vote.specs.Board.{Seen, Accepted}
use Rattle.scp_ballot_rules.specs.declared.state.State.{State}
use Rattle.scp_ballot_rules.specs.declared.state.Phase.{Phase}
use Rattle.scp_ballot_rules.specs.declared.state.Phase.TheVariants.{Prepare, Confirm, Externalize}
use Rattle.scp_ballot_rules.specs.Order.{FitsUnder, IsOver}
use Rattle.scp_ballot_rules.specs.Owed.{IsCandidate}
use Rattle.scp_ballot_rules.specs.Rules.{IsHeld}
use Rattle.scp_ballot_rules.specs.Greatest.{IsGreatestOf, Where, IsOf}

-- The ballots that rule 1 looks at: the candidate ballots that are accepted as prepared, in Confirm only those with low's value.
abbrev pub IsInA : Phase → Seen → State → Ballot → Type 0
IsInA Prepare b s x = IsCandidate b x × Accepted b (Prepared x)
IsInA Confirm b s x = IsCandidate b x × Accepted b (Prepared x) × IsOf x.value s.low
IsInA Externalize b s x = ⊥

-- high is there, and the new prepared or prime is greater than it and incompatible with it
abbrev pub IsOvertaken : Option Ballot → Option Ballot → Option Ballot → Type 0
IsOvertaken high p prime = IsSomeAnd high (λ h. IsOver p h ⊎ IsOver prime h)

-- prepared becomes the greatest of these and itself. prime becomes the greatest of these, itself and the old prepared that is
-- less than the new prepared and incompatible with it. low is cleared if high is overtaken by the new ones.
pub record AcceptsInPrepare (b : Seen) (s t : State) : Type 0 where
  pub frame : t ≡ record s { prepared = t.prepared; prime = t.prime; low = t.low }
  pub prepared : IsGreatestOf (λ x. IsInA Prepare b s x ⊎ (s.prepared ≡ Some x)) t.prepared
  pub prime : IsGreatestOf (λ x. (IsInA Prepare b s x ⊎ IsHeld s x) × IsSomeAnd t.prepared (λ p. FitsUnder x p)) t.prime
  pub low : Where (IsOvertaken s.high t.prepared t.prime) None s.low t.low

-- in the phase Confirm: prepared becomes the greatest of these and itself
pub record AcceptsInConfirm (b : Seen) (s t : State) : Type 0 where
  pub frame : t ≡ record s { prepared = t.prepared }
  pub prepared : IsGreatestOf (λ x. IsInA Confirm b s x ⊎ (s.prepared ≡ Some x)) t.prepared

-- what accepting ballots as prepared does, by the phase
abbrev pub AcceptPrepared : Phase → Seen → State → State → Type 0
AcceptPrepared Prepare b s t = AcceptsInPrepare b s t
AcceptPrepared Confirm b s t = AcceptsInConfirm b s t
AcceptPrepared Externalize b s t = t ≡ s
