-- The names of nodes, quorum sets and statements (this project's profile).
use Rattle.std.specs.Prelude.{◌≡◌, ℕ, true, List, [], ◌∷◌, ◌++◌, length, map, flat_map, take, drop, Contains, Option, Some, None, option_map, IsSome, if◌then◌else◌, nat_lt, codes, string_bytes}
use Rattle.std.specs.List.{find}
use Rattle.std.specs.Fmt.{decimal}
use Rattle.std.specs.Ordering.{nat_cmp}
use Rattle.std.specs.declared.cmp.Ordering.{Ordering}
use Rattle.std.specs.Cmp.Lexicographic.{slice_cmp}
use Rattle.std.specs.BTreeMap as hash_map
use Rattle.scp_slot.specs.scp_types.specs.declared.names.Hash.{Hash}
use Rattle.scp_slot.specs.scp_types.specs.declared.names.NodeId.{NodeId}
use Rattle.scp_slot.specs.scp_xdr.specs.Tree.{Trees, no_trees, tree_then}
use Rattle.scp_slot.specs.scp_quorum.specs.QuorumTree.{Level, QuorumTree}
use Rattle.scp_slot.specs.scp_quorum.specs.QuorumKind.{set_hash}
use Rattle.scp_slot.specs.scp_envelope.specs.Kinds.{set_hash_of}
use Rattle.scp_slot.specs.scp_envelope.specs.declared.statement.Envelope.{Envelope}
use Rattle.scp_script.specs.scp_wire.specs.declared.message.Message.{Message}
use Rattle.scp_script.specs.scp_wire.specs.declared.message.Message.TheVariants.{Envelope as EnvelopeMessage, GetSet, Set as SetMessage, NoSet, GetRecord, Record, Records}
use Rattle.scp_script.specs.scp_wire.specs.Connections.{same_node}
use Rattle.scp_script.specs.scp_wire.specs.Reading.{reading_of}
use Rattle.scp_text.specs.Pieces.{listed, bracketed}
use Rattle.scp_text.specs.Sets.{node_text, hash_text, set_text}
use Rattle.scp_text.specs.Messages.{message_words}
use Rattle.scp_script.specs.declared.command.Command.{Command}
use Rattle.scp_script.specs.declared.command.Command.TheVariants.{Caps, Nodes, Set, Open, Close, Send, Propose, Round, Timer, Tick, Ask, Settle, Wait, Report}
use Rattle.scp_script.specs.Script.{node_count}
use Rattle.scp_script.specs.Nodes.{numbers, set_at}
use Rattle.scp_stand_slot.specs.NodeNames.{Naming}
use Rattle.scp_stand_slot.specs.declared.names.Names.{Names}

-- ---- nodes

-- The name, if there is one, and otherwise the text of the node's id: its number, or its 64 digits.
abbrev pub name_or_text : Option Naming → NodeId → List ℕ
name_or_text (Some naming) node = naming.name
name_or_text None node = node_text node

-- The name of a node: the first that its id has here. A node without one is shown by the text of its id.
abbrev pub node_name : Names → NodeId → List ℕ
node_name names node = name_or_text (find (λ naming. same_node naming.id node) names.nodes.items) node

-- Nodes with commas between their names, or a dash for none.
abbrev pub nodes_text : Names → List NodeId → List ℕ
nodes_text names [] = codes "-"
nodes_text names (v ∷ vs) = listed 44 true (map (node_name names) (v ∷ vs))

-- The words with which each line of a slot at a node begins.
abbrev pub slot_words : Names → NodeId → ℕ → List ℕ
slot_words names me slot = node_name names me ++ codes " slot " ++ decimal slot

-- ---- quorum sets

-- A threshold, and the texts of the entries.
unfoldable pub level_named : Names → Level → List (List ℕ) → List ℕ
level_named names level inner = decimal level.threshold ++ bracketed (codes "of(") (listed 44 true (map (node_name names) level.validators ++ inner))

-- The texts of the sets of a row.
unfoldable pub row_named : Names → Trees Level → List (List ℕ)
row_named names no_trees = []
row_named names (tree_then level inner others) = level_named names level (row_named names inner) ∷ row_named names others

-- The text of a quorum set, as `2of(bob,carol)`: as in a script, but with the names of its nodes.
unfoldable pub set_named : Names → QuorumTree → List ℕ
set_named names set = level_named names set.head (row_named names set.inner)

-- ---- hashes

-- Hashes are ordered by their bytes.
abbrev pub hash_cmp : Hash → Hash → Ordering
hash_cmp a b = slice_cmp nat_cmp a.0 b.0

-- The text of the set with this hash, if it is known.
abbrev pub text_at : Names → Hash → Option (List ℕ)
text_at names hash = option_map string_bytes (hash_map.get hash_cmp names.sets hash)

-- A hash, shown as the text of its set.
abbrev pub named : List ℕ → List ℕ
named text = bracketed (codes "hash(") text

-- A hash is shown as the text of its set, if that is known and has fewer than 64 characters. Otherwise it is shown as its 64 hexadecimal
-- digits.
abbrev pub name_by : Option (List ℕ) → Hash → List ℕ
name_by (Some text) hash = if nat_lt (length (named text)) 64 then named text else hash_text hash
name_by None hash = hash_text hash

-- The name of a hash: `hash(SET)` if the set is known and this has fewer than 64 characters, and otherwise its 64 hexadecimal digits.
abbrev pub name_of : Names → Hash → List ℕ
name_of names hash = name_by (text_at names hash) hash

-- ---- the sets of a script

-- The quorum set that a message carries, if it carries one.
abbrev pub set_in : Option Message → List QuorumTree
set_in (Some (SetMessage set)) = set ∷ []
set_in (Some (EnvelopeMessage e)) = []
set_in (Some (GetSet hash)) = []
set_in (Some (NoSet hash)) = []
set_in (Some (GetRecord slot)) = []
set_in (Some (Record slot value)) = []
set_in (Some (Records first values)) = []
set_in None = []

-- The quorum set that these bytes carry, if they encode a message that is a quorum set.
abbrev pub set_in_bytes : List ℕ → List QuorumTree
set_in_bytes bytes = set_in (reading_of bytes)

-- The quorum set that a command sends, if it sends one.
abbrev pub set_sent : Command → List QuorumTree
set_sent (Caps capacities) = []
set_sent (Nodes count quorum) = []
set_sent (Set node set) = []
set_sent (Open from to) = []
set_sent (Close from to) = []
set_sent (Send from to bytes) = set_in_bytes bytes
set_sent (Propose node slot value) = []
set_sent (Round node slot) = []
set_sent (Timer node slot) = []
set_sent (Tick node) = []
set_sent (Ask from to slot) = []
set_sent Settle = []
set_sent (Wait node things) = []
set_sent (Report node) = []

-- The quorum sets of the nodes, and those that commands send.
abbrev pub sets_of : List Command → List QuorumTree
sets_of commands = map (λ number. set_at number commands) (numbers (node_count commands)) ++ flat_map set_sent commands

-- The names are the texts of exactly these sets, each by its hash, and these names of nodes.
pub record AreNamesOf (sets : List QuorumTree) (nodes : List Naming) (names : Names) : Type 0 where
  pub each : (hash : Hash) (text : List ℕ) → text_at names hash ≡ Some text → (set : QuorumTree) × Contains sets set × (hash.0 ≡ set_hash set) × (text ≡ set_text set)
  pub all : (set : QuorumTree) → Contains sets set → (hash : Hash) → hash.0 ≡ set_hash set → IsSome (text_at names hash)
  pub called : names.nodes.items ≡ nodes

-- The names are those of the sets of the script. Its nodes have none, and so are shown by their numbers.
abbrev pub AreNames : List Command → Names → Type 0
AreNames commands names = AreNamesOf (sets_of commands) [] names

-- ---- texts

-- The words, with the first in place of the second, and the other in place of the fourth.
abbrev pub with_names : List ℕ → List ℕ → List (List ℕ) → List (List ℕ)
with_names second fourth words = take 1 words ++ second ∷ (take 1 (drop 2 words) ++ fourth ∷ drop 4 words)

-- The envelope's statement, as said by this node in this slot.
abbrev pub said_as : NodeId → ℕ → Envelope → Envelope
said_as node slot e = record { statement = record { node = node; slot = record { 0 = slot }; pledges = e.statement.pledges }; signature = e.signature }

-- The text of the envelope as a message. The node and the hash in it, which are its second and its fourth word, are shown by their names.
abbrev pub statement_text : Names → Envelope → List ℕ
statement_text names e = listed 32 true (with_names (node_name names e.statement.node) (name_of names (set_hash_of e.statement.pledges)) (message_words (EnvelopeMessage (record { value = e }))))
