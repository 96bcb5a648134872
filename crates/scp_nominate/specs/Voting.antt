-- Step 1: what is voted for while there is no candidate (the SCP draft; the order is this project's profile).
use Rattle.std.specs.Prelude.{◌≡◌, ◌≢◌, ◌↔◌, ◌⊎◌, ℕ, List, [], Option, Contains}
use Rattle.std.specs.List.Sorted.{IsStrictlySortedBy}
use Rattle.scp_vote.specs.scp_types.specs.declared.names.NodeId.{NodeId}
use Rattle.scp_vote.specs.scp_quorum.specs.NodeSet.{node_cmp}
use Rattle.scp_vote.specs.scp_envelope.specs.Ballots.{value_cmp}
use Rattle.scp_vote.specs.Board.{Seen}
use Rattle.scp_nominate.specs.Owed.{OwnLists, Names}
use Rattle.scp_nominate.specs.InTurn.{InTurn}
use Rattle.scp_nominate.specs.Places.{VotesOne, VotesSome}

-- a named value is voted for if it is fully validated; else what is extracted from it is, if anything
abbrev pub VotesNamed : (List ℕ → Type 0) → (List ℕ → Option (List ℕ)) → List ℕ → List (List ℕ) → List (List ℕ) → Type 0
VotesNamed full extracted named old new = (full named × VotesOne named old new) ⊎ ((¬ (full named)) × VotesSome (extracted named) old new)

-- The values that the node's statement votes for or accepts, ascending.
pub record AreNamedBy (b : Seen) (node : NodeId) (values : List (List ℕ)) : Type 0 where
  pub ascend : IsStrictlySortedBy value_cmp values
  pub all : (v : List ℕ) → Contains values v ↔ Names b node v

-- for a leader: each value that it names is voted for, in order, unless the leader is this node
abbrev pub VotesAfter : (List ℕ → Type 0) → (List ℕ → Option (List ℕ)) → Seen → NodeId → List (List ℕ) → List (List ℕ) → Type 0
VotesAfter full extracted b node old new =
    ((node ≡ b.me) × (new ≡ old)) ⊎ ((node ≢ b.me) × ((values : List (List ℕ)) × AreNamedBy b node values × InTurn (λ v s t. VotesNamed full extracted v s t) values old new))

-- this node, if it leads, votes for its proposal
abbrev pub VotesOwn : Type 0 → Option (List ℕ) → List (List ℕ) → List (List ℕ) → Type 0
VotesOwn leads proposal old new = (leads × VotesSome proposal old new) ⊎ ((¬ leads) × (new ≡ old))

-- The leaders, ascending.
pub record AreLeaders (leads : NodeId → Type 0) (nodes : List NodeId) : Type 0 where
  pub ascend : IsStrictlySortedBy node_cmp nodes
  pub all : (v : NodeId) → Contains nodes v ↔ leads v

-- First the own proposal, then what the leaders name, in the leaders' order.
pub record VotesInTurn (full : List ℕ → Type 0) (extracted : List ℕ → Option (List ℕ)) (leads : NodeId → Type 0) (proposal : Option (List ℕ)) (b : Seen) (old new : List (List ℕ)) : Type 0 where
  pub proposed : List (List ℕ)
  pub own : VotesOwn (leads b.me) proposal old proposed
  pub leaders : List NodeId
  pub lead : AreLeaders leads leaders
  pub others : InTurn (λ node s t. VotesAfter full extracted b node s t) leaders proposed new

-- step 1, which does nothing if there is a candidate
abbrev pub VotesFirst : (List ℕ → Type 0) → (List ℕ → Option (List ℕ)) → (NodeId → Type 0) → Option (List ℕ) → Seen → OwnLists → OwnLists → Type 0
VotesFirst full extracted leads proposal b s t =
    ((s.candidates ≡ []) × VotesInTurn full extracted leads proposal b s.votes t.votes × (t ≡ record s { votes = t.votes })) ⊎ ((s.candidates ≢ []) × (t ≡ s))
