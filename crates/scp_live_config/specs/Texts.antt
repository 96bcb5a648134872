-- The text of a fault: one line without its line end (this project's profile).
use Rattle.std.specs.Prelude.{ℕ, ◌&&◌, List, [], ◌++◌, map, flat_map, nat_le, if◌then◌else◌, codes, string_bytes}
use Rattle.std.specs.Fmt.{decimal}
use Rattle.scp_live_config.specs.Wrong.{queue_key}
use Rattle.scp_live_config.specs.declared.wrong.SetWrong.{SetWrong}
use Rattle.scp_live_config.specs.declared.wrong.SetWrong.TheVariants as within
use Rattle.scp_live_config.specs.declared.wrong.Wrong.{Wrong}
use Rattle.scp_live_config.specs.declared.wrong.Wrong.TheVariants as wrong
use Rattle.scp_live_config.specs.declared.fault.ConfigFault.{ConfigFault}
use Rattle.scp_live_config.specs.declared.fault.ConfigFault.TheVariants as config

-- A byte as it is shown. Printable ASCII, space included, is shown as it is, and any other byte as a question mark.
abbrev pub shown_byte : ℕ → ℕ
shown_byte b = if nat_le 32 b && nat_le b 126 then b else 63

-- A text of the document as it is shown, so that it stays on one line.
abbrev pub shown : List ℕ → List ℕ
shown text = map shown_byte text

-- The path step to the inner set at this index.
abbrev pub inner_path : ℕ → List ℕ
inner_path place = codes ".INNER_SETS[" ++ decimal place ++ codes "]"

-- The path from QUORUM_SET to an inner set.
abbrev pub set_path : List ℕ → List ℕ
set_path inner = codes "QUORUM_SET" ++ flat_map inner_path inner

-- The part of the path that names the wrong key in the table of a set.
abbrev pub key_in_set : SetWrong → List ℕ
key_in_set (within.Stray key) = codes "." ++ shown (string_bytes key)
key_in_set within.Threshold = codes ".THRESHOLD"
key_in_set within.Validators = codes ".VALIDATORS"
key_in_set (within.Validator place) = codes ".VALIDATORS[" ++ decimal place ++ codes "]"
key_in_set within.InnerSets = codes ".INNER_SETS"
key_in_set within.TooDeep = codes ".INNER_SETS"

-- The key of what is wrong, with its path and its index.
abbrev pub wrong_key : Wrong → List ℕ
wrong_key (wrong.Stray key) = shown (string_bytes key)
wrong_key wrong.Nodes = codes "NODES"
wrong_key (wrong.Name name) = codes "NODES." ++ shown (string_bytes name)
wrong_key (wrong.Id name) = codes "NODES." ++ shown (string_bytes name)
wrong_key (wrong.SameId name other) = codes "NODES." ++ shown (string_bytes name)
wrong_key wrong.Node = codes "NODE"
wrong_key wrong.Peers = codes "PEERS"
wrong_key (wrong.Peer place) = codes "PEERS[" ++ decimal place ++ codes "]"
wrong_key (wrong.PeerTwice place) = codes "PEERS[" ++ decimal place ++ codes "]"
wrong_key (wrong.PeerIsNode place) = codes "PEERS[" ++ decimal place ++ codes "]"
wrong_key wrong.Set = codes "QUORUM_SET"
wrong_key (wrong.InSet inner w) = set_path inner.items ++ key_in_set w
wrong_key wrong.NodeTwice = codes "QUORUM_SET"
wrong_key wrong.ManyNodes = codes "QUORUM_SET"
wrong_key wrong.LongSet = codes "QUORUM_SET"
wrong_key wrong.Capacities = codes "CAPACITIES"
wrong_key (wrong.StrayCapacity key) = codes "CAPACITIES." ++ shown (string_bytes key)
wrong_key (wrong.Capacity queue) = codes "CAPACITIES." ++ queue_key queue

-- What is expected in the table of a set.
abbrev pub expected_in_set : SetWrong → List ℕ
expected_in_set (within.Stray key) = codes "no such key"
expected_in_set within.Threshold = codes "a number, 1 to the count of its entries"
expected_in_set within.Validators = codes "an array of names"
expected_in_set (within.Validator place) = codes "a name that stands in NODES"
expected_in_set within.InnerSets = codes "an array of tables"
expected_in_set within.TooDeep = codes "at most 4 levels of inner sets"

-- What is expected at the key, without the name of another node.
abbrev pub expected_words : Wrong → List ℕ
expected_words (wrong.Stray key) = codes "no such key"
expected_words wrong.Nodes = codes "a table of names and ids"
expected_words (wrong.Name name) = codes "a name of 1 to 32 of a-z 0-9 _ -, no number"
expected_words (wrong.Id name) = codes "64 hexadecimal digits, or a number, 1 to 255"
expected_words (wrong.SameId name other) = codes "another id than NODES."
expected_words wrong.Node = codes "a name that stands in NODES"
expected_words wrong.Peers = codes "an array of at most 100 names"
expected_words (wrong.Peer place) = codes "a name that stands in NODES"
expected_words (wrong.PeerTwice place) = codes "a name only once"
expected_words (wrong.PeerIsNode place) = codes "another node than NODE"
expected_words wrong.Set = codes "a table"
expected_words (wrong.InSet inner w) = expected_in_set w
expected_words wrong.NodeTwice = codes "a node only once in the whole"
expected_words wrong.ManyNodes = codes "at most 1000 nodes"
expected_words wrong.LongSet = codes "at most 65532 bytes as XDR"
expected_words wrong.Capacities = codes "a table"
expected_words (wrong.StrayCapacity key) = codes "no such key"
expected_words (wrong.Capacity queue) = codes "a number, 1 to 1024"

-- The name of the other node that has the same id. It is empty for any other fault.
abbrev pub other_name : Wrong → List ℕ
other_name (wrong.SameId name other) = string_bytes other
other_name w = []

-- What is expected at the key.
abbrev pub expected : Wrong → List ℕ
expected w = expected_words w ++ shown (other_name w)

-- The whole text of a fault.
abbrev pub fault_text : ConfigFault → List ℕ
fault_text config.NoMemory = codes "no memory"
fault_text (config.Text line words) = codes "line " ++ decimal line ++ codes ": " ++ shown (string_bytes words)
fault_text (config.Wrong w) = wrong_key w ++ codes ": expected " ++ expected w
