-- The text of each line of a report.
use Rattle.std.specs.Prelude.{ℕ, Bool, List, [], ◌∷◌, ◌++◌, codes, flat_map}
use Rattle.std.specs.Fmt.{decimal}
use Rattle.scp_strkey.specs.scp_types.specs.declared.names.NodeId.{NodeId}
use Rattle.scp_history.specs.declared.line.Counts.{Counts}
use Rattle.scp_history.specs.declared.line.Line.{Line}
use Rattle.scp_history.specs.declared.line.Line.TheVariants.{Unread, Cut, Value, Uncertified, Unbacked, Split, Against, Message, Silent, Contradicts, End}
use Rattle.scp_history.specs.declared.line.Place.{Place}
use Rattle.scp_history.specs.declared.side.Side.{Side}
use Rattle.scp_history.specs.declared.line.Sums.{Sums}
use Rattle.scp_history.specs.Words.{behind_space, unread_word, spaced_value, spaced_statement, spaced_verdict}

-- how a line of a record begins
abbrev pub record_head : ℕ → ℕ → List ℕ
record_head file number = codes "file " ++ decimal file ++ codes " record " ++ decimal number

-- how a line of a ledger begins, and its word
abbrev pub head : ℕ → List ℕ → List ℕ
head ledger word = codes "ledger " ++ decimal ledger ++ codes " " ++ word

-- nodes, each after a space
abbrev pub nodes_text : Bool → List NodeId → List ℕ
nodes_text by_number nodes = flat_map (behind_space by_number) nodes

-- a line that says this word of some nodes
abbrev pub line_of_nodes : Bool → ℕ → List ℕ → List NodeId → List ℕ
line_of_nodes by_number ledger word nodes = head ledger word ++ nodes_text by_number nodes

-- how many externalize a value
abbrev pub externalizers_text : ℕ → List ℕ
externalizers_text count = codes " externalize " ++ decimal count

-- how many confirm it, and how many prepare it
abbrev pub others_text : Counts → List ℕ
others_text n = codes " confirm " ++ decimal n.confirm ++ codes " prepare " ++ decimal n.prepare

-- how many say a value last by which statement
abbrev pub said_text : Counts → List ℕ
said_text n = externalizers_text n.externalize ++ others_text n

-- for how many it is certified, and how many are backed
abbrev pub sure_text : Counts → List ℕ
sure_text n = codes " certified " ++ decimal n.certified ++ codes " backed " ++ decimal n.backed

-- the numbers of a value
abbrev pub counts_text : Counts → List ℕ
counts_text n = said_text n ++ sure_text n

-- a value, and the nodes for which it is certified
abbrev pub side_text : Bool → Side → List ℕ
side_text by_number side = spaced_value side.value ++ nodes_text by_number side.nodes

-- one more of them after a bar
abbrev pub behind_bar : Bool → Side → List ℕ
behind_bar by_number side = codes " |" ++ side_text by_number side

-- the values that are certified, with bars between them
abbrev pub sides_text : Bool → List Side → List ℕ
sides_text by_number [] = []
sides_text by_number (side ∷ sides) = side_text by_number side ++ flat_map (behind_bar by_number) sides

-- an archive's number, and the number of a message in its entry, each after a space
abbrev pub spaced_place : Place → List ℕ
spaced_place place = codes " " ++ decimal place.file ++ codes " " ++ decimal place.message

-- the sums at the end
abbrev pub sums_text : Sums → List ℕ
sums_text s =
    codes "ledgers " ++ decimal s.first ++ codes " to " ++ decimal s.last ++ codes ", " ++ decimal s.missing ++ codes " missing, " ++ decimal s.certified ++ codes " of " ++ decimal s.ledgers ++ codes " certified for all"

-- the words of a line
abbrev pub words_of : Bool → Line → List ℕ
words_of by_number (Unread file number why) = record_head file number ++ codes " unread " ++ unread_word why
words_of by_number (Cut file number) = record_head file number ++ codes " cut"
words_of by_number (Value ledger value counts) = head ledger (codes "value") ++ spaced_value value ++ counts_text counts
words_of by_number (Uncertified ledger nodes) = line_of_nodes by_number ledger (codes "uncertified") nodes
words_of by_number (Unbacked ledger nodes) = line_of_nodes by_number ledger (codes "unbacked") nodes
words_of by_number (Split ledger sides) = head ledger (codes "split") ++ sides_text by_number sides
words_of by_number (Against ledger node statement value) = head ledger (codes "against") ++ behind_space by_number node ++ spaced_statement statement ++ spaced_value value
words_of by_number (Message ledger place verdict hash node) = head ledger (codes "message") ++ spaced_place place ++ spaced_verdict verdict hash.0 ++ behind_space by_number node
words_of by_number (Silent ledger nodes) = line_of_nodes by_number ledger (codes "silent") nodes
words_of by_number (Contradicts ledger node first last) = head ledger (codes "contradicts") ++ behind_space by_number node ++ spaced_place first ++ spaced_place last
words_of by_number (End sums) = sums_text sums

-- a line, with the line feed that ends it
abbrev pub line_text : Bool → Line → List ℕ
line_text by_number line = words_of by_number line ++ 10 ∷ []
