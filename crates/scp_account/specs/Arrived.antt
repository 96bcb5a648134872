-- What came over the links of a node whose stages ran in threads (this project's profile).
use Rattle.std.specs.Prelude.{ℕ, ◌+◌, List, [], ◌∷◌, Option, Some, None, map, codes, slice_get}
use Rattle.std.specs.Global.{Vec}
use Rattle.serde_json.specs.Data.{Data, null, string, array, object, member, no_members}
use Rattle.serde_json.specs.View.{items_of}
use Rattle.scp_line.specs.scp_types.specs.declared.names.NodeId.{NodeId}
use Rattle.scp_line.specs.scp_wire.specs.declared.link.LinkItem.{LinkItem}
use Rattle.scp_line.specs.scp_wire.specs.declared.link.LinkItem.TheVariants as item
use Rattle.scp_line.specs.scp_report.specs.declared.report.LinkReport.{LinkReport}
use Rattle.scp_account.specs.Pieces.{digits, id_json}

-- An item that came on a link: that the peer opened it, the bytes of a message, or that the peer closed it.
abbrev pub item_json : LinkItem → Data
item_json (item.Opened conn) = string (codes "open")
item_json (item.Bytes conn bytes) = digits bytes
item_json (item.Closed conn) = string (codes "close")

-- What came on a link, in order, or null if it wasn't kept.
abbrev pub arrived_json : Option (Option (Vec LinkItem)) → Data
arrived_json None = null
arrived_json (Some None) = null
arrived_json (Some (Some items)) = array (items_of (map item_json items.items))

-- The link with this number to this peer, from what was kept of each link.
abbrev pub arrival_json : List (Option (Vec LinkItem)) → ℕ → NodeId → Data
arrival_json came link peer =
    object (member (codes "came") (arrived_json (slice_get came link))
    (member (codes "peer") (id_json peer) no_members))

-- These links, the first of which has this number.
abbrev pub arrivals_json : List (Option (Vec LinkItem)) → ℕ → List LinkReport → List Data
arrivals_json came link [] = []
arrivals_json came link (k ∷ ks) = arrival_json came link k.peer ∷ arrivals_json came (link + 1) ks
