-- The range of commit of a value.
use Rattle.std.specs.Prelude.{◌<◌, ◌≤◌, ℕ, List}
use Rattle.scp_vote.specs.declared.claim.Claim.{Claim}
use Rattle.scp_vote.specs.declared.claim.Claim.TheVariants.{Committed}
use Rattle.scp_vote.specs.Board.{Seen}
use Rattle.scp_ballot_rules.specs.Owed.{IsBoundary}

-- The range of a value in a stage of voting: hi is the greatest boundary for which Committed(hi, hi, v) is reached,
-- and lo the least for which Committed(lo, hi, v) is.
pub record IsRangeOf (Reached : Claim → Type 0) (b : Seen) (v : List ℕ) (lo hi : ℕ) : Type 0 where
  pub high : IsBoundary b v hi × Reached (Committed hi hi v)
  pub greatest : (n : ℕ) → IsBoundary b v n → Reached (Committed n n v) → n ≤ hi
  pub low : IsBoundary b v lo × Reached (Committed lo hi v)
  pub least : (n : ℕ) → IsBoundary b v n → Reached (Committed n hi v) → lo ≤ n

-- the commit of no boundary of the value above the floor is reached
abbrev pub HasNone : (Claim → Type 0) → Seen → List ℕ → ℕ → Type 0
HasNone Reached b v floor = (n : ℕ) → IsBoundary b v n → floor < n → ¬ (Reached (Committed n n v))
