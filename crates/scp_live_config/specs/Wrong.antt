-- What is wrong with the document of a configuration (this project's profile).
use Rattle.std.specs.Prelude.{◌≡◌, ◌⊎◌, ℕ, ◌+◌, ◌-◌, ◌<◌, ◌≤◌, false, List, [], ◌∷◌, length, map, Option, Some, None, codes, string_bytes, IsSomeAnd, take, count_by, ◌==◌}
use Rattle.std.specs.List.{slice_get, IsDistinct}
use Rattle.std.specs.Ordering.{eq_by_cmp}
use Rattle.scp_quorum.specs.scp_types.specs.declared.limits.TheConstants.{LINK_LIMIT}
use Rattle.toml.specs.Data.{Data, Items, Members, get_member, as_table}
use Rattle.scp_quorum.specs.scp_types.specs.declared.names.NodeId.{NodeId}
use Rattle.scp_quorum.specs.scp_xdr.specs.Kind.{Fits}
use Rattle.scp_quorum.specs.NodeSet.{node_cmp}
use Rattle.scp_quorum.specs.QuorumTree.{QuorumTree}
use Rattle.scp_quorum.specs.QuorumKind.{set_kind, set_value, set_spelling}
use Rattle.scp_quorum.specs.Sane.{all_nodes}
use Rattle.scp_live_config.specs.Names.{Identity, pairs_of, values_of, is_name, id_said, identity_said, name_said, node_said, belongs}
use Rattle.scp_live_config.specs.Sets.{threshold_in, validators_in, sets_in, SaysSet}
use Rattle.scp_live_config.specs.Config.{SaysNames, table_at, node_in, peers_in, table_said, capacity_said}
use Rattle.scp_live_config.specs.declared.wrong.Section.{Section}
use Rattle.scp_live_config.specs.declared.wrong.Section.TheVariants as section
use Rattle.scp_live_config.specs.declared.wrong.Queue.{Queue}
use Rattle.scp_live_config.specs.declared.wrong.Queue.TheVariants.{Link, Inbox, Ready, Decided}
use Rattle.scp_live_config.specs.declared.wrong.SetWrong.{SetWrong}
use Rattle.scp_live_config.specs.declared.wrong.SetWrong.TheVariants as within
use Rattle.toml.specs.Parse.{parse_document}
use Rattle.scp_live_config.specs.declared.fault.ConfigFault.{ConfigFault}
use Rattle.scp_live_config.specs.declared.fault.ConfigFault.TheVariants as config
use Rattle.scp_live_config.specs.declared.wrong.Wrong.{Wrong}
use Rattle.scp_live_config.specs.declared.wrong.Wrong.TheVariants as wrong

-- The table has this key, and the section may not have it.
abbrev pub IsStray : Section → Members → List ℕ → Type 0
IsStray section ms key = (i : ℕ) × (said : Data) × (slice_get (pairs_of ms) i ≡ Some (key, said)) × (belongs section key ≡ false)

-- ---- quorum sets

-- This is wrong in the table of a set that may have at most `left` levels of inner sets.
abbrev pub IsWrongHere : List Identity → ℕ → Members → SetWrong → Type 0
IsWrongHere names left ms (within.Stray key) = IsStray section.Set ms (string_bytes key)
IsWrongHere names left ms within.Threshold =
    (validators sets : List Data) × (validators_in ms ≡ Some validators) × (sets_in ms ≡ Some sets) × (threshold_in (length validators + length sets) ms ≡ None)
IsWrongHere names left ms within.Validators = validators_in ms ≡ None
IsWrongHere names left ms (within.Validator i) = (validators : List Data) × (validators_in ms ≡ Some validators) × (slice_get (map (node_said names) validators) i ≡ Some None)
IsWrongHere names left ms within.InnerSets = (sets_in ms ≡ None) ⊎ ((sets : List Data) × (i : ℕ) × (sets_in ms ≡ Some sets) × (slice_get (map as_table sets) i ≡ Some None))
IsWrongHere names left ms within.TooDeep = (left ≡ 0) × ((sets : List Data) × (sets_in ms ≡ Some sets) × (0 < length sets))

-- This is wrong in the inner set at the end of this path. Each number of the path is the index of one inner set in the set before it.
abbrev pub IsWrongInside : List Identity → ℕ → List ℕ → Members → SetWrong → Type 0
IsWrongInside names left [] ms w = IsWrongHere names left ms w
IsWrongInside names left (i ∷ places) ms w =
    (sets : List Data) × (inner : Members) × (sets_in ms ≡ Some sets) × (slice_get (map as_table sets) i ≡ Some (Some inner)) × IsWrongInside names (left - 1) places inner w

-- The document has a table QUORUM_SET, and it gives this quorum set.
abbrev pub SaysQuorumSet : List Identity → Members → QuorumTree → Type 0
SaysQuorumSet names doc set = (ms : Members) × (table_at (codes "QUORUM_SET") doc ≡ Some ms) × SaysSet names ms set

-- ---- names and peers

-- A key of NODES isn't a name.
abbrev pub IsNoName : Members → List ℕ → Type 0
IsNoName nodes name = (i : ℕ) × (said : Data) × (slice_get (pairs_of nodes) i ≡ Some (name, said)) × (is_name name ≡ false)

-- The value at a key of NODES isn't an id.
abbrev pub HasNoId : Members → List ℕ → Type 0
HasNoId nodes name = (i : ℕ) × (said : Data) × (slice_get (pairs_of nodes) i ≡ Some (name, said)) × (id_said said ≡ None)

-- Two keys of NODES have the same id. The earlier key is `other`, the later one is `name`.
abbrev pub HaveOneId : Members → List ℕ → List ℕ → Type 0
HaveOneId nodes name other =
    (i j : ℕ) × (id : NodeId) × (i < j)
    × (slice_get (map identity_said (pairs_of nodes)) i ≡ Some (Some (record { name = other; id = id })))
    × (slice_get (map identity_said (pairs_of nodes)) j ≡ Some (Some (record { name = name; id = id })))

-- PEERS is an array, and its value at this index names this peer, or no node if it is `None`.
abbrev pub IsPeerAt : List Identity → Members → ℕ → Option Identity → Type 0
IsPeerAt names doc i peer = (items : Items) × (peers_in doc ≡ Some items) × (slice_get (map (name_said names) (values_of items)) i ≡ Some peer)

-- The name at this index of PEERS is also at an earlier index.
abbrev pub IsPeerTwice : List Identity → Members → ℕ → Type 0
IsPeerTwice names doc i = (j : ℕ) × (one other : Identity) × (j < i) × IsPeerAt names doc j (Some one) × IsPeerAt names doc i (Some other) × (one.name ≡ other.name)

-- The name at this index of PEERS is the node's own.
abbrev pub IsOwnPeer : List Identity → Identity → Members → ℕ → Type 0
IsOwnPeer names node doc i = (peer : Identity) × IsPeerAt names doc i (Some peer) × (peer.name ≡ node.name)

-- PEERS isn't an array, or has more than 100 values.
abbrev pub AreNoPeers : Members → Type 0
AreNoPeers doc = (items : Items) → peers_in doc ≡ Some items → LINK_LIMIT < length (values_of items)

-- ---- the whole

-- The key of a queue's capacity.
abbrev pub queue_key : Queue → List ℕ
queue_key Link = codes "LINK"
queue_key Inbox = codes "INBOX"
queue_key Ready = codes "READY"
queue_key Decided = codes "DECIDED"

-- No node is in the quorum set twice.
abbrev pub AreApart : QuorumTree → Type 0
AreApart set = IsDistinct (eq_by_cmp node_cmp) (all_nodes set)

-- The quorum set can be encoded as XDR in at most 65,532 bytes.
abbrev pub IsShort : QuorumTree → Type 0
IsShort set = Fits set_kind (set_value set) × (length (set_spelling set) ≤ 65532)

-- The quorum set isn't sane, for this reason.
abbrev pub IsWrongSet : QuorumTree → Wrong → Type 0
IsWrongSet set wrong.NodeTwice = AreApart set → ⊥
IsWrongSet set wrong.ManyNodes = 1000 < length (all_nodes set)
IsWrongSet set wrong.LongSet = IsShort set → ⊥
IsWrongSet set other = ⊥

-- The document gives a quorum set that isn't sane, for this reason.
abbrev pub SaysWrongSet : Members → Wrong → Type 0
SaysWrongSet doc w = (names : List Identity) × (set : QuorumTree) × SaysNames doc names × SaysQuorumSet names doc set × IsWrongSet set w

-- This is wrong with the document: the value at the reported key isn't what is expected there.
abbrev pub IsWrong : Members → Wrong → Type 0
IsWrong doc (wrong.Stray key) = IsStray section.Whole doc (string_bytes key)
IsWrong doc wrong.Nodes = table_at (codes "NODES") doc ≡ None
IsWrong doc (wrong.Name name) = (nodes : Members) × (table_at (codes "NODES") doc ≡ Some nodes) × IsNoName nodes (string_bytes name)
IsWrong doc (wrong.Id name) = (nodes : Members) × (table_at (codes "NODES") doc ≡ Some nodes) × HasNoId nodes (string_bytes name)
IsWrong doc (wrong.SameId name other) = (nodes : Members) × (table_at (codes "NODES") doc ≡ Some nodes) × HaveOneId nodes (string_bytes name) (string_bytes other)
IsWrong doc wrong.Node = (names : List Identity) × SaysNames doc names × (node_in names doc ≡ None)
IsWrong doc wrong.Peers = AreNoPeers doc
IsWrong doc (wrong.Peer i) = (names : List Identity) × SaysNames doc names × IsPeerAt names doc i None
IsWrong doc (wrong.PeerTwice i) = (names : List Identity) × SaysNames doc names × IsPeerTwice names doc i
IsWrong doc (wrong.PeerIsNode i) = (names : List Identity) × (node : Identity) × SaysNames doc names × (node_in names doc ≡ Some node) × IsOwnPeer names node doc i
IsWrong doc wrong.Set = table_at (codes "QUORUM_SET") doc ≡ None
IsWrong doc (wrong.InSet inner w) = (names : List Identity) × (ms : Members) × SaysNames doc names × (table_at (codes "QUORUM_SET") doc ≡ Some ms) × IsWrongInside names 4 inner.items ms w
IsWrong doc wrong.NodeTwice = SaysWrongSet doc wrong.NodeTwice
IsWrong doc wrong.ManyNodes = SaysWrongSet doc wrong.ManyNodes
IsWrong doc wrong.LongSet = SaysWrongSet doc wrong.LongSet
IsWrong doc wrong.Capacities = table_said (get_member (codes "CAPACITIES") doc) ≡ None
IsWrong doc (wrong.StrayCapacity key) = (queues : Members) × (table_said (get_member (codes "CAPACITIES") doc) ≡ Some queues) × IsStray section.Queues queues (string_bytes key)
IsWrong doc (wrong.Capacity queue) = (queues : Members) × (table_said (get_member (codes "CAPACITIES") doc) ≡ Some queues) × (capacity_said (get_member (queue_key queue) queues) ≡ None)

-- The line number of an index in a text, counted from 1.
abbrev pub line_at : List ℕ → ℕ → ℕ
line_at text place = 1 + count_by (λ b. b == 10) (take place text)

-- This is why the text isn't read. Memory ran out, or the text isn't TOML and the line is that of some index in it, or what the document
-- says is wrong.
abbrev pub IsFaultOf : List ℕ → ConfigFault → Type 0
IsFaultOf text config.NoMemory = Unit {0}
IsFaultOf text (config.Text line words) = (parse_document text ≡ None) × ((place : ℕ) × (place ≤ length text) × (line ≡ line_at text place))
IsFaultOf text (config.Wrong w) = IsSomeAnd (parse_document text) (λ doc. IsWrong doc w)
