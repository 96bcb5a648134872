-- The lines of a report as JSON: an object for each (this project's profile). Numbers are whole.
use Rattle.std.specs.Prelude.{ℕ, Bool, List, [], ◌∷◌, ◌++◌, codes, map, flat_map}
use Rattle.hex.specs.Hex.{encode_lower}
use Rattle.serde_json.specs.Data.{Data, number, unsigned, string, array, object, member, no_members}
use Rattle.serde_json.specs.View.{items_of}
use Rattle.serde_json.specs.Written.{compact_text}
use Rattle.scp_shown.specs.scp_types.specs.declared.names.NodeId.{NodeId}
use Rattle.scp_shown.specs.scp_history.specs.Words.{node_text, value_digits, unread_word, verdict_word, statement_word}
use Rattle.scp_shown.specs.scp_history.specs.declared.line.Line.{Line}
use Rattle.scp_shown.specs.scp_history.specs.declared.line.Line.TheVariants.{Unread, Cut, Value, Uncertified, Unbacked, Split, Against, Message, Silent, Contradicts, End}
use Rattle.scp_shown.specs.scp_history.specs.declared.line.Place.{Place}
use Rattle.scp_shown.specs.scp_history.specs.declared.side.Side.{Side}

-- a number
abbrev pub count : ℕ → Data
count n = number (unsigned n)

-- a word
abbrev pub word : List ℕ → Data
word text = string text

-- a node: its address or its number
abbrev pub node_json : Bool → NodeId → Data
node_json by_number v = string (node_text by_number v)

-- nodes
abbrev pub nodes_json : Bool → List NodeId → Data
nodes_json by_number vs = array (items_of (map (node_json by_number) vs))

-- a value: the first digits of its SHA-256
abbrev pub value_json : List ℕ → Data
value_json x = string (value_digits x)

-- where a message is
abbrev pub place_json : Place → Data
place_json p = object (member (codes "file") (count p.file) (member (codes "message") (count p.message) no_members))

-- a value, and the nodes for which it is certified
abbrev pub side_json : Bool → Side → Data
side_json by_number s = object (member (codes "nodes") (nodes_json by_number s.nodes) (member (codes "value") (value_json s.value) no_members))

-- a line that says this word of some nodes
abbrev pub nodes_line_json : Bool → ℕ → List ℕ → List NodeId → Data
nodes_line_json by_number ledger name nodes = object (member (codes "ledger") (count ledger) (member (codes "line") (word name) (member (codes "nodes") (nodes_json by_number nodes) no_members)))

-- a line
abbrev pub line_json : Bool → Line → Data
line_json by_number (Unread file position why) =
    object (member (codes "file") (count file) (member (codes "line") (word (codes "unread")) (member (codes "record") (count position) (member (codes "why") (word (unread_word why)) no_members))))
line_json by_number (Cut file position) = object (member (codes "file") (count file) (member (codes "line") (word (codes "cut")) (member (codes "record") (count position) no_members)))
line_json by_number (Value ledger value counts) =
    object
    (member (codes "backed") (count counts.backed)
    (member (codes "certified") (count counts.certified)
    (member (codes "confirm") (count counts.confirm)
    (member (codes "externalize") (count counts.externalize)
    (member (codes "ledger") (count ledger) (member (codes "line") (word (codes "value")) (member (codes "prepare") (count counts.prepare) (member (codes "value") (value_json value) no_members))))))))
line_json by_number (Uncertified ledger nodes) = nodes_line_json by_number ledger (codes "uncertified") nodes
line_json by_number (Unbacked ledger nodes) = nodes_line_json by_number ledger (codes "unbacked") nodes
line_json by_number (Split ledger sides) =
    object (member (codes "ledger") (count ledger) (member (codes "line") (word (codes "split")) (member (codes "sides") (array (items_of (map (side_json by_number) sides))) no_members)))
line_json by_number (Against ledger node statement value) =
    object
    (member (codes "ledger") (count ledger)
    (member (codes "line") (word (codes "against")) (member (codes "node") (node_json by_number node) (member (codes "statement") (word (statement_word statement)) (member (codes "value") (value_json value) no_members)))))
line_json by_number (Message ledger place verdict hash node) =
    object
    (member (codes "at") (place_json place)
    (member (codes "ledger") (count ledger)
    (member (codes "line") (word (codes "message")) (member (codes "node") (node_json by_number node) (member (codes "set") (word (encode_lower hash.0)) (member (codes "verdict") (word (verdict_word verdict)) no_members))))))
line_json by_number (Silent ledger nodes) = nodes_line_json by_number ledger (codes "silent") nodes
line_json by_number (Contradicts ledger node first last) =
    object
    (member (codes "first") (place_json first) (member (codes "last") (place_json last) (member (codes "ledger") (count ledger) (member (codes "line") (word (codes "contradicts")) (member (codes "node") (node_json by_number node) no_members)))))
line_json by_number (End sums) =
    object
    (member (codes "certified") (count sums.certified)
    (member (codes "first") (count sums.first)
    (member (codes "last") (count sums.last) (member (codes "ledgers") (count sums.ledgers) (member (codes "line") (word (codes "ledgers")) (member (codes "missing") (count sums.missing) no_members))))))

-- a line as text, with the line feed that ends it
abbrev pub line_object : Bool → Line → List ℕ
line_object by_number line = compact_text (line_json by_number line) ++ 10 ∷ []

-- the text of a report
abbrev pub report_objects : Bool → List Line → List ℕ
report_objects by_number lines = flat_map (line_object by_number) lines
