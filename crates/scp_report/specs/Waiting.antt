-- What a node holds, connection by connection (this project's profile).
use Rattle.std.specs.Prelude.{ℕ, ◌+◌, List, [], ◌∷◌, ◌++◌, flat_map, nat_lt, take, if◌then◌else◌}
use Rattle.scp_core.specs.scp_types.specs.declared.limits.TheConstants.{LINK_LIMIT}
use Rattle.scp_core.specs.scp_types.specs.declared.names.ConnId.{ConnId}
use Rattle.scp_core.specs.scp_types.specs.declared.names.NodeId.{NodeId}
use Rattle.scp_core.specs.scp_wire.specs.Connections.{conn_at}
use Rattle.scp_core.specs.scp_pending.specs.Line.{count_held}
use Rattle.scp_core.specs.scp_pending.specs.Queues.{parked_of as parked_on, first_waiting}
use Rattle.scp_core.specs.Node.{lives_at}
use Rattle.scp_core.specs.Kv.{NodeView}
use Rattle.scp_script.specs.Nodes.{numbers}
use Rattle.scp_report.specs.declared.report.Parked.{Parked}

-- The connection with the number of its messages that the node holds, if it holds any, and the first of them that waits for a quorum set.
abbrev pub parked_of : NodeView → ConnId → List Parked
parked_of v conn = if nat_lt 0 (count_held conn v.pending) then record { conn = conn; count = count_held conn v.pending; first = first_waiting (parked_on conn v.pending.settled.queues) } ∷ [] else []

-- the connections over this link whose messages are held, with their numbers, in the order of their lives; this peer sends on them
abbrev pub parked_over : NodeView → ℕ → NodeId → List Parked
parked_over v link peer = flat_map (λ life. parked_of v (conn_at peer v.config.me life)) (numbers (lives_at v link))

-- the same for the links of these peers, the first of which has this number
abbrev pub parked_behind : NodeView → ℕ → List NodeId → List Parked
parked_behind v link [] = []
parked_behind v link (peer ∷ peers) = parked_over v link peer ++ parked_behind v (link + 1) peers

-- the same for all links of a node, at most a hundred, link by link
abbrev pub parked_in : NodeView → List Parked
parked_in v = parked_behind v 0 (take LINK_LIMIT v.config.peers)
