-- Steps 2 and 3: what is accepted, and what becomes a candidate (the SCP draft; the order is this project's profile).
use Rattle.std.specs.Prelude.{◌≡◌, ◌↔◌, ◌⊎◌, ℕ, List, Contains}
use Rattle.std.specs.List.Sorted.{IsStrictlySortedBy}
use Rattle.scp_vote.specs.scp_types.specs.declared.names.NodeId.{NodeId}
use Rattle.scp_vote.specs.scp_envelope.specs.Ballots.{value_cmp}
use Rattle.scp_vote.specs.declared.claim.Claim.TheVariants.{Nominated}
use Rattle.scp_vote.specs.Board.{Seen, Accepted, Confirmed}
use Rattle.scp_nominate.specs.Owed.{OwnLists, Names}
use Rattle.scp_nominate.specs.InTurn.{InTurn}
use Rattle.scp_nominate.specs.Places.{Joins, HasPlace}

-- the board accepts the value's nomination, and the value has a place among the votes
abbrev pub MayTake : Seen → List ℕ → OwnLists → Type 0
MayTake b v s = HasPlace s.votes v × Accepted b (Nominated v)

-- The value is added to accepted and to votes.
pub record TakesIn (v : List ℕ) (s t : OwnLists) : Type 0 where
  pub votes : Joins v s.votes t.votes
  pub accepted : Joins v s.accepted t.accepted
  pub candidates : t.candidates ≡ s.candidates

-- the value is taken in, unless it is there already or may not be taken
abbrev pub TakesOne : Seen → List ℕ → OwnLists → OwnLists → Type 0
TakesOne b v s t = (((¬ (Contains s.accepted v)) × MayTake b v s) × TakesIn v s t) ⊎ ((Contains s.accepted v ⊎ (¬ (MayTake b v s))) × (t ≡ s))

-- The fully validated values on the board, ascending. (There may be other fully validated values among them: no node names
-- them, so the board accepts none.)
pub record AreOnBoard (full : List ℕ → Type 0) (b : Seen) (values : List (List ℕ)) : Type 0 where
  pub ascend : IsStrictlySortedBy value_cmp values
  pub all : (node : NodeId) (v : List ℕ) → full v → Names b node v → Contains values v
  pub valid : (v : List ℕ) → Contains values v → full v

-- the fully validated values on the board are taken in turn, ascending, each as `TakesOne` says
pub record TakesInTurn (full : List ℕ → Type 0) (b : Seen) (s t : OwnLists) : Type 0 where
  pub values : List (List ℕ)
  pub on_board : AreOnBoard full b values
  pub each : InTurn (λ v x y. TakesOne b v x y) values s t

-- Each accepted value whose nomination the board confirms becomes a candidate, and no other value does.
pub record FindsAll (b : Seen) (s t : OwnLists) : Type 0 where
  pub rest : t ≡ record s { candidates = t.candidates }
  pub ascends : IsStrictlySortedBy value_cmp t.candidates
  pub holds : (v : List ℕ) → Contains t.candidates v ↔ (Contains s.candidates v ⊎ (Contains s.accepted v × Confirmed b (Nominated v)))
