-- Which parts a published document of quorum sets has, and which keys are known in each (stellar-core's `quorum`, and stellarbeat's nodes).
use Rattle.std.specs.Prelude.{ℕ, Bool, true, false, not, List, [], ◌∷◌, ◌++◌, filter, Option, Some, None, option_map, option_and_then, codes}
use Rattle.std.specs.List.{list_any}
use Rattle.std.specs.Str.{bytes_eq}
use Rattle.serde_json.specs.Data.{Data, null, string, array, object, Items, no_items, item, Members, no_members, member}
use Rattle.serde_json.specs.Find.{get_member}
use Rattle.scp_quorum_files.specs.declared.form.Form.{Form}
use Rattle.scp_quorum_files.specs.declared.form.Form.TheVariants.{Core, Beat}
use Rattle.scp_quorum_files.specs.declared.form.Part.{Part}
use Rattle.scp_quorum_files.specs.declared.form.Part.TheVariants.{Whole, Transitive, Node, Set, Organisation}

-- ---- arrays and objects

-- The values of an array, in their order.
abbrev pub values_of : Items → List Data
values_of no_items = []
values_of (item said others) = said ∷ values_of others

-- The keys of an object, in their order.
abbrev pub keys_in : Members → List (List ℕ)
keys_in no_members = []
keys_in (member key said others) = key ∷ keys_in others

-- The values of an array that may be missing or null. Such an array has none; any other value than an array gives nothing.
abbrev pub values_said : Option Data → Option (List Data)
values_said None = Some []
values_said (Some null) = Some []
values_said (Some (array items)) = Some (values_of items)
values_said (Some other) = None

-- The values of the array at a key.
abbrev pub values_at : List ℕ → Members → Option (List Data)
values_at key ms = values_said (get_member key ms)

-- The text that a value is, in a list; no other value gives one.
abbrev pub text_in : Data → List (List ℕ)
text_in (string text) = text ∷ []
text_in other = []

-- The object that a value is, in a list; no other value gives one.
abbrev pub object_in : Data → List Members
object_in (object ms) = ms ∷ []
object_in other = []

-- Whether a value is a text or an object.
abbrev pub is_entry : Data → Bool
is_entry (string text) = true
is_entry (object ms) = true
is_entry other = false

-- ---- keys

-- The keys that each part may have.
abbrev pub keys_of : Form → Part → List (List ℕ)
keys_of Core Whole = codes "node" ∷ codes "qset" ∷ codes "transitive" ∷ []
keys_of Core Transitive = codes "nodes" ∷ codes "node_count" ∷ codes "critical" ∷ codes "intersection" ∷ codes "last_check_ledger" ∷ codes "last_good_ledger" ∷ codes "potential_split" ∷ []
keys_of Core Node = codes "node" ∷ codes "qset" ∷ codes "distance" ∷ codes "heard" ∷ codes "status" ∷ codes "value" ∷ codes "value_id" ∷ []
keys_of Core Set = codes "t" ∷ codes "v" ∷ codes "hash" ∷ []
keys_of Core Organisation = []
keys_of Beat Whole = codes "nodes" ∷ codes "organizations" ∷ codes "time" ∷ codes "id" ∷ codes "name" ∷ codes "latestLedger" ∷ []
keys_of Beat Transitive = []
keys_of Beat Node =
    codes "publicKey" ∷ codes "quorumSet" ∷ codes "name" ∷ codes "organizationId" ∷ codes "quorumSetHashKey" ∷ codes "homeDomain" ∷ codes "isValidator" ∷ codes "validating" ∷ codes "active" ∷ codes "ip" ∷ codes "port" ∷ codes "host" ∷ []
keys_of Beat Set = codes "threshold" ∷ codes "validators" ∷ codes "innerQuorumSets" ∷ codes "hashKey" ∷ []
keys_of Beat Organisation = codes "id" ∷ codes "name" ∷ codes "validators" ∷ codes "homeDomain" ∷ []

-- The part may have this key.
abbrev pub belongs : Form → Part → List ℕ → Bool
belongs form part key = list_any (bytes_eq key) (keys_of form part)

-- The keys of the object that the part may not have.
abbrev pub strays_of : Form → Part → Members → List (List ℕ)
strays_of form part ms = filter (λ key. not (belongs form part key)) (keys_in ms)

-- ---- quorum sets

-- The key of a set's threshold.
abbrev pub threshold_key : Form → List ℕ
threshold_key Core = codes "t"
threshold_key Beat = codes "threshold"

-- The values of two arrays, one after the other.
abbrev pub joined : Option (List Data) → Option (List Data) → Option (List Data)
joined one other = option_and_then (λ front. option_map (λ back. front ++ back) other) one

-- The entries of a set: nodes as texts, and inner sets as objects.
abbrev pub entries_in : Form → Members → Option (List Data)
entries_in Core ms = values_at (codes "v") ms
entries_in Beat ms = joined (values_at (codes "validators") ms) (values_at (codes "innerQuorumSets") ms)

-- ---- nodes

-- The key of a node's name.
abbrev pub name_key : Form → List ℕ
name_key Core = codes "node"
name_key Beat = codes "publicKey"

-- The key of a node's quorum set.
abbrev pub set_key : Form → List ℕ
set_key Core = codes "qset"
set_key Beat = codes "quorumSet"

-- The nodes of stellar-core's document: those at `transitive`, or else the document itself, which is one node.
abbrev pub core_nodes : Members → Option Data → Option (List Data)
core_nodes ms None = Some (object ms ∷ [])
core_nodes ms (Some null) = Some (object ms ∷ [])
core_nodes ms (Some (object inner)) = values_at (codes "nodes") inner
core_nodes ms (Some other) = None

-- The nodes of a document. stellarbeat has an array of them, or an object with such an array at `nodes`.
abbrev pub nodes_in : Form → Data → Option (List Data)
nodes_in Core (object ms) = core_nodes ms (get_member (codes "transitive") ms)
nodes_in Core other = None
nodes_in Beat (array items) = Some (values_of items)
nodes_in Beat (object ms) = values_at (codes "nodes") ms
nodes_in Beat other = None

-- The organisations of a document. Only stellarbeat has them, in an object.
abbrev pub organisations_in : Form → Data → Option (List Data)
organisations_in Beat (object ms) = values_at (codes "organizations") ms
organisations_in form other = Some []

-- stellar-core's document has no `nodes` at its top.
abbrev pub form_by : Option Data → Form
form_by None = Core
form_by (Some said) = Beat

-- In which form a document is. stellar-core's is an object.
abbrev pub form_of : Data → Form
form_of (object ms) = form_by (get_member (codes "nodes") ms)
form_of other = Beat
