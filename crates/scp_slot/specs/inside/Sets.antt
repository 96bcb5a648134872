-- The counted sets of the nodes that have reached a counter.
use Rattle.std.specs.Prelude.{◌≡◌, ℕ, nat_le, cond, Option, Some, None}
use Rattle.scp_nominate.specs.scp_types.specs.declared.names.NodeId.{NodeId}
use Rattle.scp_nominate.specs.scp_quorum.specs.QuorumTree.{QuorumTree}
use Rattle.scp_nominate.specs.scp_envelope.specs.declared.statement.Pledges.{Pledges}
use Rattle.scp_nominate.specs.scp_vote.specs.Board.{Seen}
use Rattle.scp_ballot.specs.scp_ballot_rules.specs.Owed.{counter_in}

-- the set, if the statement has this counter or a higher one
abbrev pub set_from : ℕ → Option Pledges → Option QuorumTree → Option QuorumTree
set_from n None set = None
set_from n (Some p) set = cond (nat_le n (counter_in p)) set None

-- the counted set of the node, if the node has reached this counter
abbrev pub counted_from : Seen → ℕ → NodeId → Option QuorumTree
counted_from b n v = set_from n (b.statement v) (b.counted v)

-- these are the counted sets of the nodes that have reached this counter
abbrev pub AreSetsFrom : Seen → ℕ → (NodeId → Option QuorumTree) → Type 0
AreSetsFrom b n sets = (v : NodeId) → sets v ≡ counted_from b n v
