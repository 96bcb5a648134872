-- What it means that no rule of the ballot machine changes its state.
use Rattle.std.specs.Prelude.{◌<◌, ℕ, List, IsSomeAnd}
use Rattle.std.specs.Option.{ForSome}
use Rattle.scp_vote.specs.scp_types.specs.declared.ballot.Ballot.{Ballot}
use Rattle.scp_vote.specs.declared.claim.Claim.TheVariants.{Prepared, Committed}
use Rattle.scp_vote.specs.Board.{Seen, Accepted, Confirmed}
use Rattle.scp_ballot_rules.specs.declared.state.State.{State}
use Rattle.scp_ballot_rules.specs.Order.{AtMost, IsAbove}
use Rattle.scp_ballot_rules.specs.Own.{counter_of}
use Rattle.scp_ballot_rules.specs.Owed.{IsCandidate, IsBoundary}

-- No further ballot is accepted as prepared, in the phase Prepare.
abbrev pub AcceptsNoMore : Seen → State → Type 0
AcceptsNoMore b s = (x : Ballot) → IsCandidate b x → Accepted b (Prepared x) → ¬ (IsAbove x s.prepared)

-- No further ballot is confirmed as prepared.
abbrev pub ConfirmsNoMore : Seen → State → Type 0
ConfirmsNoMore b s = (x : Ballot) → IsCandidate b x → Confirmed b (Prepared x) → IsSomeAnd s.confirmed (λ w. AtMost x w)

-- No commit is accepted, in the phase Prepare.
abbrev pub CommitsNone : Seen → Type 0
CommitsNone b = (v : List ℕ) (n : ℕ) → IsBoundary b v n → ¬ (Accepted b (Committed n n v))

-- No commit of the value is accepted above the high end, in the phase Confirm.
abbrev pub CommitsNoHigher : Seen → State → Type 0
CommitsNoHigher b s = ForSome s.low (λ c. (n : ℕ) → IsBoundary b c.value n → counter_of s.high < n → ¬ (Accepted b (Committed n n c.value)))

-- No commit of the value is confirmed, in the phase Confirm.
abbrev pub ConfirmsNone : Seen → State → Type 0
ConfirmsNone b s = ForSome s.low (λ c. (n : ℕ) → IsBoundary b c.value n → ¬ (Confirmed b (Committed n n c.value)))
