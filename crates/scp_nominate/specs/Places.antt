-- A value in an ascending list, and the seven places of the votes (this project's profile).
use Rattle.std.specs.Prelude.{◌≡◌, ◌<◌, ◌↔◌, ◌⊎◌, ℕ, List, length, Option, Some, None, Contains}
use Rattle.std.specs.List.Sorted.{IsStrictlySortedBy}
use Rattle.scp_vote.specs.scp_envelope.specs.Ballots.{value_cmp}

-- The value is in the list, which ascends, with all that was there and nothing else.
pub record Joins (v : List ℕ) (old new : List (List ℕ)) : Type 0 where
  pub ascends : IsStrictlySortedBy value_cmp new
  pub holds : (w : List ℕ) → Contains new w ↔ (Contains old w ⊎ (v ≡ w))

-- the value is voted for, or fewer than seven are
abbrev pub HasPlace : List (List ℕ) → List ℕ → Type 0
HasPlace votes v = Contains votes v ⊎ (length votes < 7)

-- the value is voted for if it has a place; else the votes stay
abbrev pub VotesOne : List ℕ → List (List ℕ) → List (List ℕ) → Type 0
VotesOne v old new = (HasPlace old v × Joins v old new) ⊎ ((¬ (HasPlace old v)) × (new ≡ old))

-- the same of a value that may be absent; without one the votes stay
abbrev pub VotesSome : Option (List ℕ) → List (List ℕ) → List (List ℕ) → Type 0
VotesSome None old new = new ≡ old
VotesSome (Some v) old new = VotesOne v old new
