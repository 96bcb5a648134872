-- For whom a value is backed: by a quorum in which no EXTERNALIZE is taken at its word.
use Rattle.std.specs.Prelude.{◌≡◌, ℕ, Bool, true, List, Option, IsSomeAnd}
use Rattle.std.specs.Option.{option_map}
use Rattle.scp_ledger.specs.scp_types.specs.declared.names.NodeId.{NodeId}
use Rattle.scp_ledger.specs.scp_quorum.specs.Quorum.{IsQuorum}
use Rattle.scp_ledger.specs.scp_quorum.specs.QuorumTree.{QuorumTree}
use Rattle.scp_ledger.specs.scp_envelope.specs.Claims.{AcceptsCommit}
use Rattle.scp_ledger.specs.Journal.{Heard}

-- the set that the last ballot statement of a node names, whichever statement that is
abbrev pub set_named : (NodeId → Option Heard) → NodeId → Option QuorumTree
set_named heard v = option_map (λ h. h.set) (heard v)

-- the last ballot statement of each of the nodes accepts the commit
abbrev pub AllAccept : (NodeId → Option Heard) → ℕ → List ℕ → (NodeId → Bool) → Type 0
AllAccept heard n x nodes = (v : NodeId) → nodes v ≡ true → IsSomeAnd (heard v) (λ h. AcceptsCommit h.statement.pledges n x)

-- There are a counter and nodes which are a quorum at the node by the sets that they all name, and which all accept the commit of the value there.
abbrev pub IsBacked : (NodeId → Option Heard) → List ℕ → NodeId → Type 0
IsBacked heard x v = (n : ℕ) × (nodes : NodeId → Bool) × IsQuorum (set_named heard) v nodes × AllAccept heard n x nodes
