-- The own statement that a node's lists make, and what always holds of the lists.
use Rattle.std.specs.Prelude.{◌≡◌, ◌≤◌, ℕ, ◌⊎◌, List, [], length, Option, Some, None}
use Rattle.scp_vote.specs.scp_types.specs.declared.names.Hash.{Hash}
use Rattle.scp_vote.specs.scp_envelope.specs.declared.statement.Pledges.{Pledges}
use Rattle.scp_vote.specs.scp_envelope.specs.declared.statement.Pledges.TheVariants.{Nominate as Nominating}
use Rattle.scp_vote.specs.Board.{Seen}
use Rattle.scp_nominate.specs.declared.lists.Lists.{Lists}
use Rattle.scp_nominate.specs.declared.values.ValueSet.{ValueSet}
use Rattle.scp_nominate.specs.Values.{Has}
use Rattle.scp_nominate.specs.Steps.{AreVoted}
use Rattle.scp_nominate.specs.Owed.{Names}
use Rattle.scp_vote.specs.scp_types.specs.declared.names.NodeId.{NodeId}

-- what a node with these lists says
abbrev pub own_of : Hash → Lists → Pledges
own_of hash s = Nominating (record { set_hash = hash; votes = s.votes.values.items; accepted = s.accepted.values.items })

-- the own statement is that of the lists; or it is absent, and there is no vote
abbrev pub StandsFor : Option Pledges → Hash → Lists → Type 0
StandsFor own hash s = (own ≡ Some (own_of hash s)) ⊎ ((own ≡ None) × (s.votes.values.items ≡ []))

-- There are at most 7 votes, what is accepted is voted for and fully validated, and candidates are accepted.
pub record IsReady (full : List ℕ → Type 0) (s : Lists) : Type 0 where
  pub few : length s.votes.values.items ≤ 7
  pub voted : AreVoted s
  pub candidates : (v : List ℕ) → Has s.candidates v → Has s.accepted v
  pub valid : (v : List ℕ) → Has s.accepted v → full v

-- The known values are fully validated, and include each one that a statement on the board names.
pub record IsKnown (full : List ℕ → Type 0) (b : Seen) (known : ValueSet) : Type 0 where
  pub sound : (v : List ℕ) → Has known v → full v
  pub complete : (node : NodeId) (v : List ℕ) → full v → Names b node v → Has known v
