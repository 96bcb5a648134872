-- Nodes that are known by their places in lists, and the quorum sets that groups of them share.
use Rattle.std.specs.Prelude.{ℕ, Bool, false, cond, List, Option, Some, None, get_or, slice_get}
use Rattle.std.specs.Option.{option_map}
use Rattle.std.specs.declared.sync.Arc.{Arc}
use Rattle.std.specs.Global.{Global}
use Rattle.scp_xdr.specs.scp_types.specs.declared.names.NodeId.{NodeId}
use Rattle.scp_quorum.specs.declared.sane_set.SaneSet.{SaneSet}
use Rattle.scp_quorum.specs.declared.quorum.places.Seat.{Seat}
use Rattle.scp_quorum.specs.QuorumTree.{QuorumTree}

-- the place is there and marked
abbrev pub is_marked_at : List Bool → Option ℕ → Bool
is_marked_at marks None = false
is_marked_at marks (Some place) = get_or marks place false

-- the nodes whose place is marked
abbrev pub marked : (NodeId → Option ℕ) → List Bool → NodeId → Bool
marked place marks v = is_marked_at marks (place v)

-- the quorum set of a group
abbrev pub set_of_group : List (Arc SaneSet Global) → ℕ → Option QuorumTree
set_of_group sets g = option_map (λ shared. shared.value) (slice_get sets g)

-- the quorum set of the group of a seat
abbrev pub set_of_seat : List (Arc SaneSet Global) → Option Seat → Option QuorumTree
set_of_seat sets None = None
set_of_seat sets (Some seat) = set_of_group sets seat.group

-- the quorum set of the group of the seat at a place
abbrev pub set_at : List Seat → List (Arc SaneSet Global) → Option ℕ → Option QuorumTree
set_at seats sets None = None
set_at seats sets (Some place) = set_of_seat sets (slice_get seats place)

-- the quorum set of a node: that of the group of its seat
abbrev pub shared_set : (NodeId → Option ℕ) → List Seat → List (Arc SaneSet Global) → NodeId → Option QuorumTree
shared_set place seats sets v = set_at seats sets (place v)

-- the quorum sets of these nodes alone
abbrev pub only : (NodeId → Bool) → (NodeId → Option QuorumTree) → NodeId → Option QuorumTree
only nodes sets v = cond (nodes v) (sets v) None
