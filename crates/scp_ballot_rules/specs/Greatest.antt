-- The greatest of some ballots, and what becomes of a part of a state.
use Rattle.std.specs.Prelude.{◌≡◌, ◌⊎◌, ℕ, List, Option, IsSomeAnd}
use Rattle.std.specs.Option.{ForSome}
use Rattle.scp_vote.specs.scp_types.specs.declared.ballot.Ballot.{Ballot}
use Rattle.scp_ballot_rules.specs.Order.{AtMost}

-- the greatest ballot for which P holds, or none if P holds for none
pub record IsGreatestOf (P : Ballot → Type 0) (o : Option Ballot) : Type 0 where
  pub among : ForSome o P
  pub greatest : (x : Ballot) → P x → IsSomeAnd o (λ y. AtMost x y)

-- what it becomes if P holds, and else what it was
abbrev pub Where : {A : Type 0} → Type 0 → A → A → A → Type 0
Where P becomes was new = (P × (new ≡ becomes)) ⊎ ((P → ⊥) × (new ≡ was))

-- there is a ballot, and it has the value
abbrev pub IsOf : List ℕ → Option Ballot → Type 0
IsOf v o = IsSomeAnd o (λ x. x.value ≡ v)

-- the ballot of this counter and value
abbrev pub ballot_at : ℕ → List ℕ → Ballot
ballot_at n v = record { counter = n; value = v }
