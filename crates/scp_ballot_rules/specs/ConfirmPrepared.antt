-- Rule 2: confirm a ballot as prepared (the SCP draft, in this project's profile). What it makes of the state over a board.
use Rattle.std.specs.Prelude.{◌≡◌, ◌⊎◌, Option, Some, None, IsSomeAnd}
use Rattle.std.specs.Option.{ForSome}
use Rattle.scp_vote.specs.scp_types.specs.declared.ballot.Ballot.{Ballot}
use Rattle.scp_vote.specs.scp_envelope.specs.Ballots.{IsLess}
use Rattle.scp_vote.specs.declared.claim.Claim.TheVariants.{Prepared}
use Rattle.scp_vote.specs.Board.{Seen, Confirmed}
use Rattle.scp_ballot_rules.specs.declared.state.State.{State}
use Rattle.scp_ballot_rules.specs.declared.state.Phase.{Phase}
use Rattle.scp_ballot_rules.specs.declared.state.Phase.TheVariants.{Prepare, Confirm, Externalize}
use Rattle.scp_ballot_rules.specs.Order.{IsAbove}
use Rattle.scp_ballot_rules.specs.Ready.{NoneOver}
use Rattle.scp_ballot_rules.specs.Owed.{IsCandidate}
use Rattle.scp_ballot_rules.specs.Greatest.{IsGreatestOf, Where, IsOf}

-- The ballots that rule 2 looks at: the candidate ballots that are confirmed as prepared.
abbrev pub IsConfirmedCandidate : Seen → Ballot → Type 0
IsConfirmedCandidate b x = IsCandidate b x × Confirmed b (Prepared x)

-- confirmed becomes x; if present is absent or less than x, present and high become x; else, if present has x's value, high becomes x
pub record Enters (x : Ballot) (s t : State) : Type 0 where
  pub confirmed : t.confirmed ≡ Some x
  pub present : Where (ForSome s.present (λ b. IsLess b x)) (Some x) s.present t.present
  pub high : Where (ForSome s.present (λ b. IsLess b x) ⊎ IsOf x.value s.present) (Some x) s.high t.high

-- x, the greatest of them, enters if confirmed is absent or less than x. Then low is cleared if it is incompatible with present.
-- Then, if low is absent, high equals present, and neither prepared nor prime is over high, low becomes present.
pub record ConfirmsInPrepare (b : Seen) (s t : State) : Type 0 where
  pub frame : t ≡ record s { present = t.present; confirmed = t.confirmed; high = t.high; low = t.low }
  pub joined : ((x : Ballot) × IsGreatestOf (λ y. IsConfirmedCandidate b y) (Some x) × IsAbove x s.confirmed × Enters x s t)
      ⊎ (((x : Ballot) → IsConfirmedCandidate b x → ¬ (IsAbove x s.confirmed)) × (t.confirmed ≡ s.confirmed) × (t.present ≡ s.present) × (t.high ≡ s.high))
  pub cleared : Option Ballot
  pub clears : Where (IsSomeAnd s.low (λ c. IsOf c.value t.present → ⊥)) None s.low cleared
  pub votes : Where ((cleared ≡ None) × IsSomeAnd t.high (λ h. (t.present ≡ Some h) × NoneOver s h)) t.present cleared t.low

-- what confirming ballots as prepared does, by the phase
abbrev pub ConfirmPrepared : Phase → Seen → State → State → Type 0
ConfirmPrepared Prepare b s t = ConfirmsInPrepare b s t
ConfirmPrepared Confirm b s t = t ≡ s
ConfirmPrepared Externalize b s t = t ≡ s
