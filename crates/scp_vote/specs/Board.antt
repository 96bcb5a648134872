-- Federated voting over the board (the SCP draft): whose statements count, and what is accepted and confirmed.
use Rattle.std.specs.Prelude.{◌≡◌, ◌≢◌, Bool, true, cond, ◌⊎◌, Option, Some, None, IsSomeAnd}
use Rattle.std.specs.Option.{option_map}
use Rattle.std.specs.BTreeMap.{is_at}
use Rattle.scp_quorum.specs.scp_types.specs.declared.names.NodeId.{NodeId}
use Rattle.scp_quorum.specs.scp_xdr.specs.Tree.{no_trees}
use Rattle.std.specs.Prelude.{[], ◌∷◌}
use Rattle.scp_quorum.specs.NodeSet.{node_cmp}
use Rattle.scp_quorum.specs.QuorumTree.{QuorumTree}
use Rattle.scp_quorum.specs.Satisfies.{Blocks}
use Rattle.scp_quorum.specs.Quorum.{IsQuorum, IsWithin}
use Rattle.scp_envelope.specs.declared.statement.Pledges.{Pledges}
use Rattle.scp_envelope.specs.declared.statement.Pledges.TheVariants.{Prepare, Confirm, Externalize, Nominate}
use Rattle.scp_vote.specs.declared.claim.Claim.{Claim}
use Rattle.scp_vote.specs.declared.claim.Claim.TheVariants.{Prepared, Committed, Nominated}
use Rattle.scp_vote.specs.declared.claim.StatementKind.{StatementKind}
use Rattle.scp_vote.specs.declared.claim.StatementKind.TheVariants.{Nomination, Balloting}
use Rattle.scp_vote.specs.declared.claim.Support.TheVariants.{VotesOrAccepts, Accepts}
use Rattle.scp_vote.specs.Claims.{Stands}

-- What a node sees of one kind: itself, its set, and for each node the newest statement and the set that counts for it.
pub record Seen : Type 0 where
  pub me : NodeId
  pub local : QuorumTree
  pub statement : NodeId → Option Pledges
  pub counted : NodeId → Option QuorumTree

-- the kind of a statement: a NOMINATE is of nomination, all others are ballot statements
abbrev pub kind_of_pledges : Pledges → StatementKind
kind_of_pledges (Prepare p) = Balloting
kind_of_pledges (Confirm p) = Balloting
kind_of_pledges (Externalize p) = Balloting
kind_of_pledges (Nominate p) = Nomination

-- the kind of the statements that can support a claim
abbrev pub kind_of : Claim → StatementKind
kind_of (Prepared x) = Balloting
kind_of (Committed low high v) = Balloting
kind_of (Nominated v) = Nomination

-- the node has a statement of which P holds
abbrev pub Has : Seen → (Pledges → Type 0) → NodeId → Type 0
Has b P v = IsSomeAnd (b.statement v) P

-- each of the nodes has a statement of which P holds
abbrev pub AllHave : Seen → (Pledges → Type 0) → (NodeId → Bool) → Type 0
AllHave b P nodes = (v : NodeId) → nodes v ≡ true → Has b P v

-- some nodes whose statements all have P are a quorum at this node
abbrev pub HasQuorumOf : Seen → (Pledges → Type 0) → Type 0
HasQuorumOf b P = (nodes : NodeId → Bool) × IsQuorum b.counted b.me nodes × AllHave b P nodes

-- some nodes whose statements all have P block the local set
abbrev pub IsBlockedBy : Seen → (Pledges → Type 0) → Type 0
IsBlockedBy b P = (nodes : NodeId → Bool) × AllHave b P nodes × Blocks nodes b.local

-- The nodes that vote for or accept the claim contain a quorum at this node, or those that accept it block the local set.
abbrev pub Accepted : Seen → Claim → Type 0
Accepted b c = HasQuorumOf b (Stands VotesOrAccepts c) ⊎ IsBlockedBy b (Stands Accepts c)

-- The nodes that accept the claim contain a quorum at this node.
abbrev pub Confirmed : Seen → Claim → Type 0
Confirmed b c = HasQuorumOf b (Stands Accepts c)

-- The greatest quorum at this node among the nodes whose statement has P: it contains every other one.
pub record IsGreatestWhere (b : Seen) (P : Pledges → Type 0) (nodes : NodeId → Bool) : Type 0 where
  pub quorum : IsQuorum b.counted b.me nodes
  pub all_have : AllHave b P nodes
  pub others : (others : NodeId → Bool) → IsQuorum b.counted b.me others → AllHave b P others → IsWithin others nodes

-- The certificate of a confirmed claim is the greatest quorum at this node inside the nodes that accept it.
abbrev pub Certificate : Seen → Claim → (NodeId → Bool) → Type 0
Certificate b c nodes = IsGreatestWhere b (Stands Accepts c) nodes

-- the set with threshold 1 over the node alone
abbrev pub alone : NodeId → QuorumTree
alone v = record { head = record { threshold = 1; validators = v ∷ [] }; inner = no_trees }

-- the set that counts for another node: for its EXTERNALIZE the node alone, else the delivered set (this project's profile)
abbrev pub counted_of_other : NodeId → Pledges → QuorumTree → QuorumTree
counted_of_other v (Prepare p) delivered = delivered
counted_of_other v (Confirm p) delivered = delivered
counted_of_other v (Externalize p) delivered = alone v
counted_of_other v (Nominate p) delivered = delivered

-- The set that counts for a node: for this node the local one, for another as above.
pub record IsCounted (b : Seen) (v : NodeId) (p : Pledges) (delivered set : QuorumTree) : Type 0 where
  pub own : v ≡ b.me → set ≡ b.local
  pub other : v ≢ b.me → set ≡ counted_of_other v p delivered

-- The node's statement and set are now these, and all else is as before.
pub record Puts (old new : Seen) (node : NodeId) (statement : Pledges) (set : QuorumTree) : Type 0 where
  pub me : new.me ≡ old.me
  pub local : new.local ≡ old.local
  pub statements : (v : NodeId) → new.statement v ≡ cond (is_at (node_cmp node) v) (Some statement) (old.statement v)
  pub sets : (v : NodeId) → new.counted v ≡ cond (is_at (node_cmp node) v) (Some set) (old.counted v)

-- If this node has a statement, the set that counts for it is the local one.
abbrev pub KeepsOwn : Seen → Type 0
KeepsOwn b = b.counted b.me ≡ option_map (λ _. b.local) (b.statement b.me)

-- no node has a statement
pub record IsNewBoard (node : NodeId) (set : QuorumTree) (b : Seen) : Type 0 where
  pub me : b.me ≡ node
  pub local : b.local ≡ set
  pub statements : (v : NodeId) → b.statement v ≡ None
  pub sets : (v : NodeId) → b.counted v ≡ None

-- The node's statement is put on the board with the set that counts for it.
pub record PutsCounted (old new : Seen) (v : NodeId) (p : Pledges) (delivered : QuorumTree) : Type 0 where
  pub set : QuorumTree
  pub counted : IsCounted old v p delivered set
  pub puts : Puts old new v p set
