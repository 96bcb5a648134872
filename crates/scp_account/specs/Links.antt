-- What went over the links of a node (this project's profile).
use Rattle.std.specs.Prelude.{ℕ, ◌+◌, List, [], ◌∷◌, flat_map, codes, nat_eq, if◌then◌else◌}
use Rattle.serde_json.specs.Data.{Data, string, array, object, member, no_members}
use Rattle.serde_json.specs.View.{items_of}
use Rattle.scp_line.specs.scp_report.specs.declared.report.LinkReport.{LinkReport}
use Rattle.scp_facts.specs.declared.happening.Happening.{Happening}
use Rattle.scp_facts.specs.declared.happening.Happening.TheVariants.{Opened, Came, Closed, Sent}
use Rattle.scp_account.specs.Pieces.{count, digits, id_json}

-- What came on this link: that the peer opened it, the bytes of a message, or that the peer closed it.
abbrev pub came : ℕ → Happening → List Data
came link (Opened at) = if nat_eq at link then string (codes "open") ∷ [] else []
came link (Came at bytes) = if nat_eq at link then digits bytes ∷ [] else []
came link (Closed at) = if nat_eq at link then string (codes "close") ∷ [] else []
came link happening = []

-- The bytes of a message that was sent on this link.
abbrev pub sent : ℕ → Happening → List Data
sent link (Sent at bytes) = if nat_eq at link then digits bytes ∷ [] else []
sent link happening = []

-- The link of this number, to its peer. It has what came and what was sent, each in order, the number of own statements that were overwritten
-- before they were sent, and how much waits to be sent.
abbrev pub link_json : List Happening → ℕ → LinkReport → Data
link_json happenings link k =
    object (member (codes "came") (array (items_of (flat_map (came link) happenings)))
    (member (codes "overwritten") (count k.overwritten)
    (member (codes "peer") (id_json k.peer)
    (member (codes "sent") (array (items_of (flat_map (sent link) happenings)))
    (member (codes "waiting") (count k.waiting) no_members)))))

-- These links, the first of which has this number.
abbrev pub links_json : List Happening → ℕ → List LinkReport → List Data
links_json happenings link [] = []
links_json happenings link (k ∷ ks) = link_json happenings link k ∷ links_json happenings (link + 1) ks
