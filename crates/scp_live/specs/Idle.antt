-- How many entries of a node's journal changed nothing, peer by peer (this project's profile).
use Rattle.std.specs.Prelude.{ℕ, Bool, true, false, not, ◌&&◌, List, count_by, map, get_or}
use Rattle.scp_again.specs.scp_types.specs.declared.names.NodeId.{NodeId}
use Rattle.scp_again.specs.scp_types.specs.Same.{same_node}
use Rattle.scp_again.specs.scp_ledger.specs.declared.journal.Verdict.{Verdict}
use Rattle.scp_again.specs.scp_ledger.specs.declared.journal.Verdict.TheVariants.{Fresh, Decided}
use Rattle.scp_again.specs.scp_ledger.specs.declared.journal.Fate.{Fate}
use Rattle.scp_again.specs.scp_ledger.specs.declared.journal.Fate.TheVariants.{Taken, Dropped, Closed}
use Rattle.scp_again.specs.scp_theorem.specs.Fates.{conn_of}
use Rattle.scp_again.specs.scp_core.specs.Kv.{NodeView}

-- With this verdict a message changed something at its slot: it was fresh, or it decided the slot.
abbrev pub is_change : Verdict → Bool
is_change Fresh = true
is_change Decided = true
is_change verdict = false

-- The entry changed nothing: its message had another verdict, or was dropped, or a connection ended. Requests are such messages.
abbrev pub is_idle : Fate → Bool
is_idle (Taken conn seq message set verdict) = not (is_change verdict)
is_idle (Dropped conn seq cause) = true
is_idle (Closed conn cause) = true

-- The entry is of a connection from this peer, and changed nothing.
abbrev pub is_idle_of : NodeId → Fate → Bool
is_idle_of peer fate = same_node (conn_of fate).from peer && is_idle fate

-- How many of these entries are such.
abbrev pub idle_in : List Fate → NodeId → ℕ
idle_in journal peer = count_by (is_idle_of peer) journal

-- How many entries of the journal are such, for each peer of the node, in order.
abbrev pub idle_counts : NodeView → List ℕ
idle_counts v = map (idle_in v.ledger.journal) v.config.peers

-- The count for the peer of this link.
abbrev pub idle_at : NodeView → ℕ → ℕ
idle_at v link = get_or (idle_counts v) link 0
