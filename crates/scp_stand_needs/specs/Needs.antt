-- What is missing for the next step of a claim (the SCP draft, federated voting; this project's profile).
use Rattle.std.specs.Prelude.{◌↔◌, ◌≡◌, ◌≢◌, ◌≤◌, ℕ, Bool, true, false, List, map, All, Any, Contains, Option, Some, None, IsSome, IsSomeAnd}
use Rattle.std.specs.List.Sorted.{IsStrictlySortedBy}
use Rattle.scp_kv.specs.scp_types.specs.declared.names.NodeId.{NodeId}
use Rattle.scp_kv.specs.scp_types.specs.declared.ballot.Ballot.{Ballot}
use Rattle.scp_ballot_rules.specs.scp_quorum.specs.NodeSet.{node_cmp}
use Rattle.scp_ballot_rules.specs.scp_quorum.specs.Satisfies.{Satisfies}
use Rattle.scp_ballot_rules.specs.scp_envelope.specs.declared.statement.Pledges.{Pledges}
use Rattle.scp_ballot_rules.specs.scp_envelope.specs.declared.statement.Pledges.TheVariants.{Prepare, Confirm, Externalize, Nominate}
use Rattle.scp_ballot_rules.specs.scp_envelope.specs.declared.statement.Confirm.{Confirm as Confirming}
use Rattle.scp_ballot_rules.specs.scp_envelope.specs.Ballots.{value_cmp}
use Rattle.scp_kv.specs.Op.{ops_in}
use Rattle.scp_ballot_rules.specs.Owed.{IsCandidate, IsBoundary}
use Rattle.scp_ballot_rules.specs.scp_vote.specs.declared.board.Board.{Board}
use Rattle.scp_ballot_rules.specs.scp_vote.specs.declared.claim.StatementKind.TheVariants.{Nomination, Balloting}
use Rattle.scp_ballot_rules.specs.scp_vote.specs.declared.claim.Claim.{Claim}
use Rattle.scp_ballot_rules.specs.scp_vote.specs.declared.claim.Claim.TheVariants.{Prepared, Committed, Nominated}
use Rattle.scp_ballot_rules.specs.scp_vote.specs.declared.claim.Support.{Support}
use Rattle.scp_ballot_rules.specs.scp_vote.specs.declared.claim.Support.TheVariants.{VotesOrAccepts, Accepts}
use Rattle.scp_ballot_rules.specs.scp_vote.specs.Claims.{Stands}
use Rattle.scp_ballot_rules.specs.scp_vote.specs.Board.{Seen, Has, Accepted, Confirmed, kind_of}
use Rattle.scp_ballot_rules.specs.scp_vote.specs.Seen.{seen}
use Rattle.scp_stand_needs.specs.declared.steps.Step.{Step}
use Rattle.scp_stand_needs.specs.declared.steps.Step.TheVariants.{AcceptNominated, ConfirmNominated, AcceptPrepared, ConfirmPrepared, AcceptCommit, ConfirmCommit}
use Rattle.scp_stand_needs.specs.declared.steps.Need.{Need}

-- The step confirms the claim. Otherwise it accepts the claim.
abbrev pub confirms : Step → Bool
confirms AcceptNominated = false
confirms ConfirmNominated = true
confirms AcceptPrepared = false
confirms ConfirmPrepared = true
confirms AcceptCommit = false
confirms ConfirmCommit = true

-- The step is still to be taken: the claim isn't confirmed, or, for a step that accepts, isn't accepted.
abbrev pub IsOwed : Bool → Seen → Claim → Type 0
IsOwed true b claim = ¬ (Confirmed b claim)
IsOwed false b claim = ¬ (Accepted b claim)

-- Exactly the nodes whose statements support the claim in this way, ascending, so each once.
pub record AreStanding (b : Seen) (support : Support) (claim : Claim) (nodes : List NodeId) : Type 0 where
  pub these : (v : NodeId) → Contains nodes v ↔ Has b (Stands support claim) v
  pub ascending : IsStrictlySortedBy node_cmp nodes

-- The statement confirms or externalizes another value.
abbrev pub SettlesElse : List ℕ → Pledges → Type 0
SettlesElse value (Prepare p) = ⊥
SettlesElse value (Confirm p) = p.ballot.value ≢ value
SettlesElse value (Externalize p) = p.commit.value ≢ value
SettlesElse value (Nominate p) = ⊥

-- The node can't come to support the claim, because its statement confirms or externalizes another value. For a nomination no node is
-- against.
abbrev pub IsAgainst : Seen → Claim → NodeId → Type 0
IsAgainst b (Prepared ballot) v = Has b (SettlesElse ballot.value) v
IsAgainst b (Committed low high value) v = Has b (SettlesElse value) v
IsAgainst b (Nominated value) v = ⊥

-- The node isn't counted, and may still come to support the claim.
abbrev pub IsLacking : Seen → Claim → List NodeId → NodeId → Type 0
IsLacking b claim counted v = (¬ (Contains counted v)) × (¬ (IsAgainst b claim v))

-- The node isn't counted, and can't come to support the claim.
abbrev pub IsOpposed : Seen → Claim → List NodeId → NodeId → Type 0
IsOpposed b claim counted v = (¬ (Contains counted v)) × IsAgainst b claim v

-- Exactly the members for which P holds. If the members are ascending, so are these nodes, each once.
pub record AreMembers (P : NodeId → Type 0) (members nodes : List NodeId) : Type 0 where
  pub these : (v : NodeId) → Contains nodes v ↔ (Contains members v × P v)
  pub ascending : IsStrictlySortedBy node_cmp members → IsStrictlySortedBy node_cmp nodes

-- The test passes exactly these nodes.
abbrev pub AreThese : List NodeId → (NodeId → Bool) → Type 0
AreThese counted nodes = (v : NodeId) → (nodes v ≡ true) ↔ Contains counted v

-- The quorum set that counts for the node isn't satisfied by the counted nodes.
abbrev pub IsShort : Seen → List NodeId → NodeId → Type 0
IsShort b counted v = IsSomeAnd (b.counted v) (λ set. (nodes : NodeId → Bool) × AreThese counted nodes × (¬ (Satisfies nodes set)))

-- The nodes that a step counts. To confirm, these are the nodes that accept; otherwise those that vote or accept.
abbrev pub counted_by : Bool → List NodeId → List NodeId → List NodeId
counted_by true votes accepts = accepts
counted_by false votes accepts = votes

-- The nodes that count for the step. To accept a claim, these are the nodes that vote for it or accept it. To confirm it, these are the
-- nodes that accept it.
abbrev pub counted_of : Need → List NodeId
counted_of need = counted_by (confirms need.step) need.votes.items need.accepts.items

-- A step that the board doesn't allow yet, for a node whose members are itself and the nodes of its set. `votes` are exactly the nodes
-- that vote for the claim or accept it, and `accepts` exactly those that accept it. `lacks` are exactly the members that aren't counted
-- and may still come, and `against` exactly those that can't. `short` are exactly the counted nodes whose sets the counted nodes don't
-- satisfy.
pub record IsNeed (board : Board) (members : List NodeId) (need : Need) : Type 0 where
  pub owed : IsOwed (confirms need.step) (seen (kind_of need.claim) board) need.claim
  pub votes : AreStanding (seen (kind_of need.claim) board) VotesOrAccepts need.claim need.votes.items
  pub accepts : AreStanding (seen (kind_of need.claim) board) Accepts need.claim need.accepts.items
  pub lacks : AreMembers (IsLacking (seen (kind_of need.claim) board) need.claim (counted_of need)) members need.lacks.items
  pub against : AreMembers (IsOpposed (seen (kind_of need.claim) board) need.claim (counted_of need)) members need.against.items
  pub short : AreMembers (IsShort (seen (kind_of need.claim) board) (counted_of need)) (counted_of need) need.short.items

-- ---- which claims have a need

-- The value is an operation list, and a nomination on the board votes for it or accepts it.
pub record IsNamed (b : Seen) (value : List ℕ) : Type 0 where
  pub list : IsSome (ops_in value)
  pub node : NodeId
  pub stands : Has b (Stands VotesOrAccepts (Nominated value)) node

-- A value that is named is to be accepted next, and once it is accepted, to be confirmed.
abbrev pub IsNominationDue : Seen → Step → Claim → Type 0
IsNominationDue b AcceptNominated claim = (value : List ℕ) × (claim ≡ Nominated value) × IsNamed b value × (¬ (Accepted b claim))
IsNominationDue b ConfirmNominated claim = (value : List ℕ) × (claim ≡ Nominated value) × IsNamed b value × Accepted b claim × (¬ (Confirmed b claim))
IsNominationDue b step claim = ⊥

-- This node has accepted no commit so far: it has no ballot statement of its own, or that is a PREPARE.
abbrev pub IsPreparing : Option Pledges → Type 0
IsPreparing None = Unit {0}
IsPreparing (Some (Prepare p)) = Unit {0}
IsPreparing (Some (Confirm p)) = ⊥
IsPreparing (Some (Externalize p)) = ⊥
IsPreparing (Some (Nominate p)) = ⊥

-- A candidate ballot with the greatest counter of all candidate ballots of its value.
pub record IsTopBallot (b : Seen) (x : Ballot) : Type 0 where
  pub candidate : IsCandidate b x
  pub greatest : (y : Ballot) → IsCandidate b y → y.value ≡ x.value → y.counter ≤ x.counter

-- The greatest boundary of the value.
pub record IsTopBoundary (b : Seen) (value : List ℕ) (n : ℕ) : Type 0 where
  pub boundary : IsBoundary b value n
  pub greatest : (m : ℕ) → IsBoundary b value m → m ≤ n

-- The step that is due for a claim about ballots. The greatest candidate ballot of each value is to be accepted as prepared, and then to
-- be confirmed as prepared. After that, the commit of its value at the greatest boundary is to be accepted. Once this node accepted a
-- commit, that commit at its own highest counter is to be confirmed.
abbrev pub IsBallotDue : Seen → Step → Claim → Type 0
IsBallotDue b AcceptPrepared claim = IsPreparing (b.statement b.me) × ((x : Ballot) × (claim ≡ Prepared x) × IsTopBallot b x × (¬ (Accepted b claim)))
IsBallotDue b ConfirmPrepared claim = IsPreparing (b.statement b.me) × ((x : Ballot) × (claim ≡ Prepared x) × IsTopBallot b x × Accepted b claim × (¬ (Confirmed b claim)))
IsBallotDue b AcceptCommit claim = IsPreparing (b.statement b.me) × ((x : Ballot) × (n : ℕ) × (claim ≡ Committed n n x.value) × IsTopBallot b x × Confirmed b (Prepared x) × IsTopBoundary b x.value n × (¬ (Accepted b claim)))
IsBallotDue b ConfirmCommit claim = (p : Confirming) × (b.statement b.me ≡ Some (Confirm p)) × (claim ≡ Committed p.n_high p.n_high p.ballot.value) × (¬ (Confirmed b claim))
IsBallotDue b step claim = ⊥

-- The value of a claim.
abbrev pub value_of : Claim → List ℕ
value_of (Prepared x) = x.value
value_of (Committed low high value) = value
value_of (Nominated value) = value

-- Exactly the steps that are due, each with what is missing for it. They are ascending by value, so there is at most one for each value.
pub record AreNeeds (board : Board) (members : List NodeId) (IsDue : Step → Claim → Type 0) (needs : List Need) : Type 0 where
  pub each : All (IsNeed board members) needs
  pub due : All (λ (need : Need). IsDue need.step need.claim) needs
  pub all : (step : Step) (claim : Claim) → IsDue step claim → Any (λ (need : Need). (need.step ≡ step) × (need.claim ≡ claim)) needs
  pub ascending : IsStrictlySortedBy value_cmp (map (λ (need : Need). value_of need.claim) needs)

-- Exactly the steps that are due in the nomination, each with its need, ascending by value.
abbrev pub AreNominationNeeds : Board → List NodeId → List Need → Type 0
AreNominationNeeds board members needs = AreNeeds board members (IsNominationDue (seen Nomination board)) needs

-- Exactly the steps that are due in the ballots, each with its need, ascending by value.
abbrev pub AreBallotNeeds : Board → List NodeId → List Need → Type 0
AreBallotNeeds board members needs = AreNeeds board members (IsBallotDue (seen Balloting board)) needs
