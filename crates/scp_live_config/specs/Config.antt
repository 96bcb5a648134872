-- What the document of a configuration means (this project's profile).
use Rattle.std.specs.Prelude.{◌≡◌, ◌≢◌, ℕ, ◌≤◌, List, length, map, Option, Some, None, option_and_then, codes}
use Rattle.std.specs.List.{AllByRecursion}
use Rattle.scp_quorum.specs.scp_types.specs.declared.limits.TheConstants.{LINK_LIMIT}
use Rattle.toml.specs.Data.{Data, Items, Members, no_members, get_member, as_table, as_array}
use Rattle.scp_quorum.specs.Sane.{IsSane}
use Rattle.scp_live_config.specs.Names.{Identity, AreNames, HasOnly, NoTwo, values_of, name_said, number_to}
use Rattle.scp_live_config.specs.Sets.{SaysSet}
use Rattle.scp_live_config.specs.declared.settings.Settings.{Settings}
use Rattle.scp_quorum.specs.scp_types.specs.declared.capacities.Capacities.{Capacities}
use Rattle.scp_live_config.specs.declared.wrong.Section.TheVariants.{Whole, Queues}

-- The table at a key, if there is one.
abbrev pub table_at : List ℕ → Members → Option Members
table_at key doc = option_and_then as_table (get_member key doc)

-- The document has a table NODES, and it gives exactly these names and ids.
abbrev pub SaysNames : Members → List Identity → Type 0
SaysNames doc names = (nodes : Members) × (table_at (codes "NODES") doc ≡ Some nodes) × AreNames nodes names

-- The name and id that NODE gives, if its value is one of the names.
abbrev pub node_in : List Identity → Members → Option Identity
node_in names doc = option_and_then (name_said names) (get_member (codes "NODE") doc)

-- The array at PEERS, if there is one.
abbrev pub peers_in : Members → Option Items
peers_in doc = option_and_then as_array (get_member (codes "PEERS") doc)

-- PEERS is an array of at most 100 names, and it gives these peers in this order. No name comes twice, and none is the node's own.
pub record ArePeers (names : List Identity) (node : Identity) (doc : Members) (peers : List Identity) : Type 0 where
  pub said : (items : Items) × (peers_in doc ≡ Some items) × (map (name_said names) (values_of items) ≡ map Some peers)
  pub few : length peers ≤ LINK_LIMIT
  pub once : NoTwo (λ peer. peer.name) peers
  pub others : AllByRecursion (λ peer. peer.name ≢ node.name) peers

-- The members of a table that may be missing. A missing table has none.
abbrev pub table_said : Option Data → Option Members
table_said None = Some no_members
table_said (Some said) = as_table said

-- The capacity that a value gives: a whole number from 1 to 1024. A missing value means 64.
abbrev pub capacity_said : Option Data → Option ℕ
capacity_said None = Some 64
capacity_said (Some said) = number_to 1024 said

-- The table has no keys but those of CAPACITIES, and gives these four capacities.
pub record SaysQueues (queues : Members) (capacities : Capacities) : Type 0 where
  pub keys : HasOnly Queues queues
  pub link : capacity_said (get_member (codes "LINK") queues) ≡ Some capacities.link
  pub inbox : capacity_said (get_member (codes "INBOX") queues) ≡ Some capacities.inbox
  pub ready : capacity_said (get_member (codes "READY") queues) ≡ Some capacities.ready
  pub decided : capacity_said (get_member (codes "DECIDED") queues) ≡ Some capacities.decided

-- The table CAPACITIES, which may be missing, gives these capacities.
abbrev pub SaysCapacities : Members → Capacities → Type 0
SaysCapacities doc capacities = (queues : Members) × (table_said (get_member (codes "CAPACITIES") doc) ≡ Some queues) × SaysQueues queues capacities

-- The document is a valid configuration, and these are its settings.
pub record IsConfigOf (doc : Members) (settings : Settings) : Type 0 where
  pub keys : HasOnly Whole doc
  pub names : SaysNames doc settings.names.items
  pub node : node_in settings.names.items doc ≡ Some settings.node
  pub peers : ArePeers settings.names.items settings.node doc settings.peers.items
  pub set : (ms : Members) × (table_at (codes "QUORUM_SET") doc ≡ Some ms) × SaysSet settings.names.items ms settings.set
  pub sane : IsSane settings.set
  pub capacities : SaysCapacities doc settings.capacities
