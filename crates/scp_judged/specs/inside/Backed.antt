-- The nodes that accept a commit, and the counters that are enough to try.
use Rattle.std.specs.Prelude.{◌≡◌, ◌⊎◌, ℕ, Bool, cond, List, Option, Some, None, IsSomeAnd}
use Rattle.std.specs.Option.{option_map}
use Rattle.std.specs.BTreeMap.{is_at}
use Rattle.scp_ledger.specs.scp_types.specs.declared.names.NodeId.{NodeId}
use Rattle.scp_ledger.specs.scp_quorum.specs.NodeSet.{node_cmp}
use Rattle.scp_ledger.specs.scp_quorum.specs.Quorum.{IsQuorum}
use Rattle.scp_ledger.specs.scp_quorum.specs.QuorumTree.{QuorumTree}
use Rattle.scp_ledger.specs.scp_envelope.specs.Claims.{AcceptsCommit}
use Rattle.scp_ledger.specs.scp_envelope.specs.declared.statement.Pledges.{Pledges}
use Rattle.scp_ledger.specs.scp_envelope.specs.declared.statement.Pledges.TheVariants.{Prepare, Confirm, Externalize, Nominate}
use Rattle.scp_ledger.specs.scp_vote.specs.Board.{kind_of_pledges}
use Rattle.scp_ledger.specs.scp_vote.specs.declared.claim.StatementKind.TheVariants.{Nomination, Balloting}
use Rattle.scp_ledger.specs.Journal.{Heard}
use Rattle.scp_judged.specs.Backed.{set_named, AllAccept}

-- a node that accepts the commit has its set here, and each other node has none
pub record IsWeighed (P : Heard → Type 0) (said : Option Heard) (set : Option QuorumTree) : Type 0 where
  pub accepting : IsSomeAnd said P → set ≡ option_map (λ (h : Heard). h.set) said
  pub otherwise : IsSomeAnd said P ⊎ (set ≡ None)

-- the sets of the nodes that accept the commit, and no other set
abbrev pub AreAccepting : (NodeId → Option Heard) → ℕ → List ℕ → (NodeId → Option QuorumTree) → Type 0
AreAccepting heard n x sets = (v : NodeId) → IsWeighed (λ h. AcceptsCommit h.statement.pledges n x) (heard v) (sets v)

-- the lowest counter at which the pledges accept a commit of the value: nCommit of a CONFIRM, the commit's counter of an EXTERNALIZE
abbrev pub IsLowEnd : Pledges → List ℕ → ℕ → Type 0
IsLowEnd (Prepare p) x n = ⊥
IsLowEnd (Confirm p) x n = (x ≡ p.ballot.value) × (n ≡ p.n_commit)
IsLowEnd (Externalize p) x n = (x ≡ p.commit.value) × (n ≡ p.commit.counter)
IsLowEnd (Nominate p) x n = ⊥

-- at none of the low ends of a statement is there a quorum at the node that accepts
abbrev pub HasNoneAt : (NodeId → Option Heard) → List ℕ → NodeId → Heard → Type 0
HasNoneAt heard x v h = (n : ℕ) → IsLowEnd h.statement.pledges x n → (nodes : NodeId → Bool) → IsQuorum (set_named heard) v nodes → AllAccept heard n x nodes → ⊥

-- a ballot statement of a node that accepts the commit has its set kept, one that doesn't has none; a nomination changes nothing
abbrev pub Weighs : (NodeId → Option QuorumTree) → (NodeId → Option QuorumTree) → Heard → ℕ → List ℕ → Type 0
Weighs old new h n x =
    ((kind_of_pledges h.statement.pledges ≡ Nomination) × (new ≡ old))
    ⊎ ((kind_of_pledges h.statement.pledges ≡ Balloting) × AcceptsCommit h.statement.pledges n x × ((v : NodeId) → new v ≡ cond (is_at (node_cmp h.statement.node) v) (Some h.set) (old v)))
    ⊎ ((kind_of_pledges h.statement.pledges ≡ Balloting) × (¬ AcceptsCommit h.statement.pledges n x) × ((v : NodeId) → new v ≡ cond (is_at (node_cmp h.statement.node) v) None (old v)))
