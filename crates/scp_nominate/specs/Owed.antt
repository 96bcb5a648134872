-- How a node's lists are in nomination, what it may vote for, and what it owes (the SCP draft, in this project's profile).
use Rattle.std.specs.Prelude.{◌≡◌, ◌≢◌, ◌≤◌, ℕ, ◌⊎◌, List, [], length, Option, Some, Contains}
use Rattle.std.specs.Option.{ForSome}
use Rattle.std.specs.List.Sorted.{IsStrictlySortedBy}
use Rattle.scp_vote.specs.scp_types.specs.declared.names.NodeId.{NodeId}
use Rattle.scp_vote.specs.scp_envelope.specs.Ballots.{value_cmp}
use Rattle.scp_vote.specs.declared.claim.Claim.TheVariants.{Nominated}
use Rattle.scp_vote.specs.declared.claim.Support.TheVariants.{VotesOrAccepts}
use Rattle.scp_vote.specs.Claims.{Stands}
use Rattle.scp_vote.specs.Board.{Seen, Has, Accepted, Confirmed}

-- What a node votes for and accepts, and which values it found confirmed.
pub record OwnLists : Type 0 where
  pub votes : List (List ℕ)
  pub accepted : List (List ℕ)
  pub candidates : List (List ℕ)

-- What always holds of the lists: they ascend by bytes, votes and accepted have at most 7 values each, what is accepted is voted
-- for and fully validated, and candidates are accepted.
pub record AreOwn (full : List ℕ → Type 0) (s : OwnLists) : Type 0 where
  pub few_votes : length s.votes ≤ 7
  pub few_accepted : length s.accepted ≤ 7
  pub votes_ascend : IsStrictlySortedBy value_cmp s.votes
  pub accepted_ascend : IsStrictlySortedBy value_cmp s.accepted
  pub candidates_ascend : IsStrictlySortedBy value_cmp s.candidates
  pub voted : (v : List ℕ) → Contains s.accepted v → Contains s.votes v
  pub valid : (v : List ℕ) → Contains s.accepted v → full v
  pub candidates : (v : List ℕ) → Contains s.candidates v → Contains s.accepted v

-- the votes have at least 7 values, and this isn't one of them
abbrev pub HasSevenOthers : List (List ℕ) → List ℕ → Type 0
HasSevenOthers votes v = (¬ (Contains votes v)) × (7 ≤ length votes)

-- the node's statement on the board votes for the value or accepts it
abbrev pub Names : Seen → NodeId → List ℕ → Type 0
Names b node v = Has b (Stands VotesOrAccepts (Nominated v)) node

-- `full` says which values are fully validated, `leads` who leads. Of the fully validated values on the board, those accepted there are
-- in accepted; those of accepted that are confirmed there are candidates. While there is no candidate, the votes have the proposal, if
-- this node leads, and each fully validated value of another leader. A vote, or an accepted value, isn't owed if the votes have 7 others.
pub record OwesNothing (full : List ℕ → Type 0) (leads : NodeId → Type 0) (proposal : Option (List ℕ)) (b : Seen) (s : OwnLists) : Type 0 where
  pub accepted : (node : NodeId) (v : List ℕ) → full v → Names b node v → Accepted b (Nominated v) → Contains s.accepted v ⊎ HasSevenOthers s.votes v
  pub candidates : (v : List ℕ) → Contains s.accepted v → Confirmed b (Nominated v) → Contains s.candidates v
  pub proposed : s.candidates ≡ [] → leads b.me → ForSome proposal (λ v. Contains s.votes v ⊎ HasSevenOthers s.votes v)
  pub led : s.candidates ≡ [] → (node : NodeId) → node ≢ b.me → leads node → (v : List ℕ) → full v → Names b node v → Contains s.votes v ⊎ HasSevenOthers s.votes v

-- A named value gives itself if it is fully validated, else what is extracted from it, if anything.
abbrev pub Gives : (List ℕ → Type 0) → (List ℕ → Option (List ℕ)) → List ℕ → List ℕ → Type 0
Gives full extracted named v = (full named × (named ≡ v)) ⊎ ((¬ (full named)) × (extracted named ≡ Some v))

-- this node leads, and proposes the value
abbrev pub IsProposed : (NodeId → Type 0) → Option (List ℕ) → Seen → List ℕ → Type 0
IsProposed leads proposal b v = leads b.me × (proposal ≡ Some v)

-- the node isn't this one, and names a value that gives v
abbrev pub Suggests : (List ℕ → Type 0) → (List ℕ → Option (List ℕ)) → Seen → NodeId → List ℕ → Type 0
Suggests full extracted b node v = (node ≢ b.me) × ((named : List ℕ) × Names b node named × Gives full extracted named v)

-- what a node without a candidate may vote for: its proposal, if it leads, and what another leader suggests
abbrev pub MayVote : (List ℕ → Type 0) → (List ℕ → Option (List ℕ)) → (NodeId → Type 0) → Option (List ℕ) → Seen → List ℕ → Type 0
MayVote full extracted leads proposal b v = IsProposed leads proposal b v ⊎ ((node : NodeId) × leads node × Suggests full extracted b node v)

-- A new vote is in accepted too; or it may be voted for, and there was no candidate.
abbrev pub VotesFor : (List ℕ → Type 0) → OwnLists → OwnLists → Type 0
VotesFor may old new = (v : List ℕ) → Contains new.votes v → Contains old.votes v ⊎ Contains new.accepted v ⊎ ((old.candidates ≡ []) × may v)
