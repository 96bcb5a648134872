-- For whom a ledger is certified by what a file says, and what speaks against it.
use Rattle.std.specs.Prelude.{◌≡◌, ◌≢◌, ℕ, List, Option, Some, None, IsSomeAnd}
use Rattle.scp_ledger.specs.scp_types.specs.declared.names.NodeId.{NodeId}
use Rattle.scp_ledger.specs.scp_envelope.specs.declared.statement.Pledges.{Pledges}
use Rattle.scp_ledger.specs.scp_envelope.specs.declared.statement.Pledges.TheVariants.{Prepare, Confirm, Externalize, Nominate}
use Rattle.scp_ledger.specs.scp_envelope.specs.Sane.{IsSane}
use Rattle.scp_ledger.specs.Journal.{Heard}
use Rattle.scp_ledger.specs.Certificate.{IsCertificate, Externalizes}

-- its pledges are sane
abbrev pub IsSaneHeard : Heard → Type 0
IsSaneHeard h = IsSane h.statement.pledges

-- The node's last ballot statement is an EXTERNALIZE of the value with this nH. The nodes are a certificate of that at the node: a quorum by its
-- own set, and the last ballot statement of each other one accepts the commit.
pub record IsCertifiedFor (heard : NodeId → Option Heard) (v : NodeId) (x : List ℕ) (n : ℕ) (nodes : List NodeId) : Type 0 where
  pub said : Heard
  pub last : heard v ≡ Some said
  pub externalizes : Externalizes said.statement.pledges x n
  pub certificate : IsCertificate v said.set heard x n nodes

-- no value and no nodes certify the ledger for the node
abbrev pub IsUncertified : (NodeId → Option Heard) → NodeId → Type 0
IsUncertified heard v = (x : List ℕ) (n : ℕ) (nodes : List NodeId) → IsCertifiedFor heard v x n nodes → ⊥

-- the value of a ballot statement; a nomination has none
abbrev pub value_of : Pledges → Option (List ℕ)
value_of (Prepare p) = Some p.ballot.value
value_of (Confirm p) = Some p.ballot.value
value_of (Externalize p) = Some p.commit.value
value_of (Nominate p) = None

-- the node's last ballot statement has another value
abbrev pub IsAgainst : (NodeId → Option Heard) → List ℕ → NodeId → Type 0
IsAgainst heard x v = IsSomeAnd (heard v) (λ h. value_of h.statement.pledges ≢ Some x)
