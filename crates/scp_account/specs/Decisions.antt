-- A decision and the entries that justify it (this project's profile).
use Rattle.std.specs.Prelude.{ℕ, List, [], ◌∷◌, Option, Some, None, map, flat_map, codes, if◌then◌else◌}
use Rattle.serde_json.specs.Data.{Data, string, array, object, member, no_members}
use Rattle.serde_json.specs.View.{items_of}
use Rattle.scp_line.specs.scp_types.specs.declared.names.NodeId.{NodeId}
use Rattle.scp_line.specs.scp_types.specs.Same.{same_node}
use Rattle.scp_line.specs.scp_ledger.specs.declared.journal.Fate.{Fate}
use Rattle.scp_line.specs.scp_ledger.specs.declared.journal.Fate.TheVariants.{Taken, Dropped, Closed}
use Rattle.scp_line.specs.scp_ledger.specs.declared.journal.Origin.{Origin}
use Rattle.scp_line.specs.scp_ledger.specs.declared.journal.Origin.TheVariants.{Machine, Named}
use Rattle.scp_line.specs.scp_ledger.specs.declared.journal.Decision.{Decision}
use Rattle.scp_account.specs.Pieces.{count, digits, id_json, set_json, own_json}
use Rattle.scp_account.specs.Spoken.{counting}

-- The entry that justifies a member's place in a certificate, if it is a message that was taken with its set. Otherwise nothing.
abbrev pub entry_ground : NodeId → Fate → List Data
entry_ground node (Taken conn seq message (Some set) verdict) =
    object (member (codes "from") (id_json conn.from)
    (member (codes "life") (count conn.life)
    (member (codes "message") (count seq.0)
    (member (codes "node") (id_json node)
    (member (codes "set") (set_json set.value) no_members))))) ∷ []
entry_ground node (Taken conn seq message None verdict) = []
entry_ground node (Dropped conn seq cause) = []
entry_ground node (Closed conn cause) = []

-- The same for the entry that counts for the member, if there is one.
abbrev pub ground : NodeId → Option Fate → List Data
ground node None = []
ground node (Some fate) = entry_ground node fate

-- The same for each member except this node itself.
abbrev pub ground_of : NodeId → List Fate → ℕ → NodeId → List Data
ground_of me journal slot node = if same_node node me then [] else ground node (counting journal slot node)

-- What a decision rests on. For a machine: the counter n of the commit, a quorum that accepts it, this node's own EXTERNALIZE, and for
-- each other member the entry that counts. For a record: its sender, its connection, and its number there.
abbrev pub origin_json : NodeId → List Fate → ℕ → Origin → Data
origin_json me journal slot (Machine n quorum own) =
    object (member (codes "counter") (count n)
    (member (codes "kind") (string (codes "machine"))
    (member (codes "own") (own_json own)
    (member (codes "quorum") (array (items_of (map id_json quorum)))
    (member (codes "rests_on") (array (items_of (flat_map (ground_of me journal slot) quorum))) no_members)))))
origin_json me journal slot (Named conn seq) =
    object (member (codes "from") (id_json conn.from)
    (member (codes "kind") (string (codes "record"))
    (member (codes "life") (count conn.life)
    (member (codes "message") (count seq.0) no_members))))

-- A decision of this node, with the entries of its journal.
abbrev pub decision_json : NodeId → List Fate → Decision → Data
decision_json me journal d =
    object (member (codes "origin") (origin_json me journal d.slot.0 d.origin)
    (member (codes "slot") (count d.slot.0)
    (member (codes "value") (digits d.value) no_members)))
