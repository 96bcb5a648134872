-- What a published document says of a network (this project's profile).
use Rattle.std.specs.Prelude.{◌≡◌, ℕ, ◌≤◌, ◌||◌, Bool, true, false, not, min, List, [], ◌∷◌, ◌++◌, map, filter, flat_map, replicate, Option, Some, None, option_map, option_and_then, if◌then◌else◌, codes, string_bytes}
use Rattle.std.specs.List.{position, AllZip}
use Rattle.std.specs.Str.{bytes_eq}
use Rattle.serde_json.specs.Data.{Data, null, string, array, object, Items, no_items, item, Members, no_members, member}
use Rattle.serde_json.specs.Find.{get_member, as_str, as_number, as_u64}
use Rattle.scp_quorum_search.specs.scp_types.specs.declared.names.NodeId.{NodeId}
use Rattle.scp_quorum_search.specs.scp_xdr.specs.Tree.{Trees, no_trees, tree_then}
unfoldable pub use Rattle.scp_quorum_search.specs.scp_xdr.specs.Kind.{long_word}
use Rattle.scp_quorum_search.specs.scp_quorum.specs.QuorumTree.{Level, QuorumTree}
use Rattle.scp_quorum_search.specs.scp_quorum.specs.Sane.{levels}
use Rattle.scp_quorum_search.specs.declared.member.Member.{Member}
use Rattle.scp_quorum_files.specs.declared.form.Form.{Form}
use Rattle.scp_quorum_files.specs.declared.form.Form.TheVariants.{Core, Beat}
use Rattle.scp_quorum_files.specs.declared.form.Part.TheVariants as part
use Rattle.scp_quorum_files.specs.declared.network.Named.{Named}
use Rattle.scp_quorum_files.specs.declared.network.Network.{Network}
use Rattle.scp_quorum_files.specs.declared.network.Organisation.{Organisation}
use Rattle.scp_quorum_files.specs.Documents.{values_at, text_in, object_in, is_entry, strays_of, threshold_key, entries_in, name_key, set_key, nodes_in, organisations_in, form_of}

-- ---- names

-- The id of the node whose name is at this place: 24 zeros, and the place as 8 bytes.
abbrev pub id_at : ℕ → NodeId
id_at place = record { 0 = replicate 24 0 ++ long_word place }

-- The id of the node with this name, if it is one of the names.
abbrev pub id_of : List (List ℕ) → List ℕ → Option NodeId
id_of names name = option_map id_at (position (bytes_eq name) names)

-- Each text of the list once, where it comes first.
abbrev pub each_once : List (List ℕ) → List (List ℕ)
each_once [] = []
each_once (text ∷ texts) = text ∷ filter (λ other. not (bytes_eq text other)) (each_once texts)

-- A set has its entries at this key.
abbrev pub holds : Form → List ℕ → Bool
holds Core key = bytes_eq key (codes "v")
holds Beat key = bytes_eq key (codes "validators") || bytes_eq key (codes "innerQuorumSets")

-- The names that an entry of a set has: its own if it is a node, else those of its entries.
abbrev mutual
  pub names_in : Form → Data → List (List ℕ)
  names_in form (string text) = text ∷ []
  names_in form (array ds) = items_names form ds
  names_in form (object ms) = members_names form ms
  names_in form other = []

  -- The names that these entries have.
  pub items_names : Form → Items → List (List ℕ)
  items_names form no_items = []
  items_names form (item d ds) = names_in form d ++ items_names form ds

  -- The names that the entries of a set have.
  pub members_names : Form → Members → List (List ℕ)
  members_names form no_members = []
  members_names form (member key d ms) = (if holds form key then names_in form d else []) ++ members_names form ms

-- The keys of a set, and of its inner sets, that a set may not have.
abbrev mutual
  pub strays_in : Form → Data → List (List ℕ)
  strays_in form (array ds) = items_strays form ds
  strays_in form (object ms) = strays_of form part.Set ms ++ members_strays form ms
  strays_in form other = []

  -- Such keys of these entries.
  pub items_strays : Form → Items → List (List ℕ)
  items_strays form no_items = []
  items_strays form (item d ds) = strays_in form d ++ items_strays form ds

  -- Such keys of the inner sets of a set.
  pub members_strays : Form → Members → List (List ℕ)
  members_strays form no_members = []
  members_strays form (member key d ms) = (if holds form key then strays_in form d else []) ++ members_strays form ms

-- ---- quorum sets

-- The threshold that a value gives: a whole number. One above 2^32 - 1 is that number; no set has as many entries.
abbrev pub threshold_said : Option Data → Option ℕ
threshold_said said = option_map (λ n. min n 4294967295) (option_and_then as_u64 (option_and_then as_number said))

-- The object gives this threshold and these validators. Its entries are texts, which are names, and objects.
pub record SaysLevel (form : Form) (names : List (List ℕ)) (ms : Members) (level : Level) (entries : List Data) : Type 0 where
  pub threshold : threshold_said (get_member (threshold_key form) ms) ≡ Some level.threshold
  pub entries_are : entries_in form ms ≡ Some entries
  pub only : filter is_entry entries ≡ entries
  pub validators : map (id_of names) (flat_map text_in entries) ≡ map Some level.validators

-- Each of these objects gives the quorum set at the same place. There are as many objects as sets.
abbrev pub SayInner : Form → List (List ℕ) → List Members → Trees Level → Type 0
SayInner form names [] no_trees = Unit {0}
SayInner form names [] (tree_then level inner others) = ⊥
SayInner form names (ms ∷ objects) no_trees = ⊥
SayInner form names (ms ∷ objects) (tree_then level inner others) =
    ((entries : List Data) × SaysLevel form names ms level entries × SayInner form names (flat_map object_in entries) inner) × SayInner form names objects others

-- The object gives this quorum set, with its inner sets.
abbrev pub SaysSet : Form → List (List ℕ) → Members → QuorumTree → Type 0
SaysSet form names ms set = (entries : List Data) × SaysLevel form names ms set.head entries × SayInner form names (flat_map object_in entries) set.inner

-- ---- nodes

-- The members of a value that is an object; any other value has none.
abbrev pub members_in : Data → Members
members_in (object ms) = ms
members_in other = no_members

-- The name of a node, if its value is a text.
abbrev pub node_name : Form → Data → Option (List ℕ)
node_name form d = option_and_then as_str (get_member (name_key form) (members_in d))

-- The value that a node has as its quorum set. null is none.
abbrev pub set_value : Option Data → List Data
set_value None = []
set_value (Some null) = []
set_value (Some said) = said ∷ []

-- The quorum set of a node, in a list.
abbrev pub node_set : Form → Data → List Data
node_set form d = set_value (get_member (set_key form) (members_in d))

-- Whether the list has a value.
abbrev pub is_one : List Data → Bool
is_one [] = false
is_one (said ∷ others) = true

-- Whether a node has a quorum set.
abbrev pub has_set : Form → Data → Bool
has_set form d = is_one (node_set form d)

-- The node and its quorum set are this member. The set has at most 4 levels of inner sets.
abbrev pub SaysMember : Form → List (List ℕ) → Data → Member → Type 0
SaysMember form names d m =
    (name : List ℕ) × (qs : Members) × (node_name form d ≡ Some name) × (id_of names name ≡ Some m.node) × (node_set form d ≡ object qs ∷ []) × SaysSet form names qs m.set × (levels m.set.inner ≤ 4)

-- ---- organisations

-- The first text, or the second where there is no first.
abbrev pub either_text : Option (List ℕ) → Option (List ℕ) → Option (List ℕ)
either_text (Some name) id = Some name
either_text None id = id

-- The name of an organisation, or its id where it has none.
abbrev pub organisation_name : Members → Option (List ℕ)
organisation_name ms = either_text (option_and_then as_str (get_member (codes "name") ms)) (option_and_then as_str (get_member (codes "id") ms))

-- The value is this organisation. Its nodes are those of its validators that are names.
abbrev pub SaysOrganisation : List (List ℕ) → Data → Organisation → Type 0
SaysOrganisation names d organisation =
    (values : List Data) × (organisation_name (members_in d) ≡ Some (string_bytes organisation.name)) × (values_at (codes "validators") (members_in d) ≡ Some values)
    × (map (id_of names) (flat_map text_in values) ≡ map Some organisation.nodes.items)

-- ---- the whole

-- The keys at `transitive` that aren't known.
abbrev pub transitive_strays : Form → Option Data → List (List ℕ)
transitive_strays form None = []
transitive_strays form (Some said) = strays_of form part.Transitive (members_in said)

-- The keys of the document itself that aren't known, and in stellar-core's form those at `transitive`.
abbrev pub top_strays : Form → Data → List (List ℕ)
top_strays Core d = strays_of Core part.Whole (members_in d) ++ transitive_strays Core (get_member (codes "transitive") (members_in d))
top_strays Beat d = strays_of Beat part.Whole (members_in d)

-- The keys of a node, and of its quorum set, that aren't known.
abbrev pub node_strays : Form → Data → List (List ℕ)
node_strays form d = strays_of form part.Node (members_in d) ++ flat_map (strays_in form) (node_set form d)

-- The keys of organisations that aren't known.
abbrev pub organisation_strays : Form → Data → List (List ℕ)
organisation_strays form d = strays_of form part.Organisation (members_in d)

-- The names of these nodes.
abbrev pub names_of : List Named → List (List ℕ)
names_of nodes = map (λ node. string_bytes node.name) nodes

-- The document says that the network is this one. Each node has a name, and no two have the same. The id of a node is the place of its
-- name among all names. What isn't known is in `strays`.
pub record IsNetworkOf (doc : Data) (network : Network) : Type 0 where
  pub nodes : List Data
  pub nodes_are : nodes_in (form_of doc) doc ≡ Some nodes
  pub own : List (List ℕ)
  pub own_are : map (node_name (form_of doc)) nodes ≡ map Some own
  pub once : each_once own ≡ own
  pub ids : map (λ node. id_of (names_of network.nodes.items) (string_bytes node.name)) network.nodes.items ≡ map (λ node. Some node.id) network.nodes.items
  pub names : names_of network.nodes.items ≡ each_once (own ++ flat_map (λ d. flat_map (names_in (form_of doc)) (node_set (form_of doc) d)) nodes)
  pub members : AllZip (SaysMember (form_of doc) (names_of network.nodes.items)) (filter (has_set (form_of doc)) nodes) network.members.items
  pub organisations : (values : List Data) × (organisations_in (form_of doc) doc ≡ Some values) × AllZip (SaysOrganisation (names_of network.nodes.items)) values network.organisations.items
  pub strays : (values : List Data) × (organisations_in (form_of doc) doc ≡ Some values)
      × (map string_bytes network.strays.items ≡ (top_strays (form_of doc) doc ++ flat_map (node_strays (form_of doc)) nodes) ++ flat_map (organisation_strays (form_of doc)) values)
