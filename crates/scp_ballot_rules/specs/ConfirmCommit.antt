-- Rule 4: confirm a commit (the SCP draft, in this project's profile). What it makes of the state over a board.
use Rattle.std.specs.Prelude.{◌≡◌, ◌⊎◌, ℕ, List, Some}
use Rattle.scp_vote.specs.Board.{Seen, Confirmed}
use Rattle.scp_ballot_rules.specs.declared.state.State.{State}
use Rattle.scp_ballot_rules.specs.declared.state.Phase.{Phase}
use Rattle.scp_ballot_rules.specs.declared.state.Phase.TheVariants.{Prepare, Confirm, Externalize}
use Rattle.scp_ballot_rules.specs.Greatest.{IsOf, ballot_at}
use Rattle.scp_ballot_rules.specs.Range.{IsRangeOf, HasNone}

-- Rule 4 confirms a range of low's value: low becomes (lo, v), high (hi, v), and the phase Externalize.
pub record Commits (b : Seen) (v : List ℕ) (lo hi : ℕ) (s t : State) : Type 0 where
  pub of_low : IsOf v s.low
  pub range : IsRangeOf (λ c. Confirmed b c) b v lo hi
  pub takes : t ≡ record s { phase = Externalize; high = Some (ballot_at hi v); low = Some (ballot_at lo v) }

-- what confirming a commit does, by the phase; if there is no range to confirm, nothing
abbrev pub ConfirmCommit : Phase → Seen → State → State → Type 0
ConfirmCommit Prepare b s t = t ≡ s
ConfirmCommit Confirm b s t = ((v : List ℕ) × (lo : ℕ) × (hi : ℕ) × Commits b v lo hi s t) ⊎ (((v : List ℕ) → IsOf v s.low → HasNone (λ c. Confirmed b c) b v 0) × (t ≡ s))
ConfirmCommit Externalize b s t = t ≡ s
