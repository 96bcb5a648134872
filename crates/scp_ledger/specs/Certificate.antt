-- The certificate of a decision (the SCP draft): a quorum whose other members accept the commit.
use Rattle.std.specs.Prelude.{◌≡◌, ◌≢◌, ℕ, Bool, true, List, [], Option, Some, cond, IsSomeAnd}
use Rattle.std.specs.Option.{option_map}
use Rattle.std.specs.List.{list_any}
use Rattle.std.specs.BTreeMap.{is_at}
use Rattle.scp_slot.specs.scp_types.specs.declared.names.NodeId.{NodeId}
use Rattle.scp_slot.specs.scp_quorum.specs.NodeSet.{node_cmp}
use Rattle.scp_slot.specs.scp_quorum.specs.Quorum.{IsQuorum}
use Rattle.scp_slot.specs.scp_quorum.specs.QuorumTree.{QuorumTree}
use Rattle.scp_slot.specs.scp_quorum.specs.QuorumKind.{set_hash}
use Rattle.scp_slot.specs.scp_envelope.specs.Claims.{AcceptsCommit}
use Rattle.scp_slot.specs.scp_envelope.specs.Kinds.{set_hash_of}
use Rattle.scp_slot.specs.scp_envelope.specs.declared.statement.Envelope.{Envelope}
use Rattle.scp_slot.specs.scp_envelope.specs.declared.statement.Pledges.{Pledges}
use Rattle.scp_slot.specs.scp_envelope.specs.declared.statement.Pledges.TheVariants.{Prepare, Confirm, Externalize, Nominate}
use Rattle.scp_slot.specs.scp_vote.specs.Board.{counted_of_other}
use Rattle.scp_ledger.specs.Journal.{Heard}

-- the set that counts for another node: that node alone if its statement is an EXTERNALIZE, else the set that came with the statement
abbrev pub counted_of : NodeId → Heard → QuorumTree
counted_of v h = counted_of_other v h.statement.pledges h.set

-- the set that counts for each node; for this node its own
abbrev pub counted : NodeId → QuorumTree → (NodeId → Option Heard) → NodeId → Option QuorumTree
counted me local heard v = cond (is_at (node_cmp me) v) (Some local) (option_map (counted_of v) (heard v))

-- the node is in the list
abbrev pub has_node : List NodeId → NodeId → Bool
has_node nodes v = list_any (is_at (node_cmp v)) nodes

-- an EXTERNALIZE of this value and nH
abbrev pub Externalizes : Pledges → List ℕ → ℕ → Type 0
Externalizes (Prepare p) x n = ⊥
Externalizes (Confirm p) x n = ⊥
Externalizes (Externalize p) x n = (p.commit.value ≡ x) × (p.n_high ≡ n)
Externalizes (Nominate p) x n = ⊥

-- this node's EXTERNALIZE of the slot, value and nH, with the hash of its own set and no signature
pub record IsOwnExternalize (me : NodeId) (local : QuorumTree) (at : ℕ) (x : List ℕ) (n : ℕ) (own : Envelope) : Type 0 where
  pub node : own.statement.node ≡ me
  pub slot : own.statement.slot.0 ≡ at
  pub set : (set_hash_of own.statement.pledges).0 ≡ set_hash local
  pub externalizes : Externalizes own.statement.pledges x n
  pub unsigned : own.signature ≡ []

-- The nodes are a quorum at this node, and the last ballot statement of each other one accepts commit(n, x).
-- `heard` gives the last ballot statement of each other node with its set.
pub record IsCertificate (me : NodeId) (local : QuorumTree) (heard : NodeId → Option Heard) (x : List ℕ) (n : ℕ) (nodes : List NodeId) : Type 0 where
  pub quorum : IsQuorum (counted me local heard) me (has_node nodes)
  pub accepted : (v : NodeId) → has_node nodes v ≡ true → v ≢ me → IsSomeAnd (heard v) (λ h. AcceptsCommit h.statement.pledges n x)
