-- The words that say bytes, and what a line is converted to (this project's profile).
use Rattle.std.specs.Prelude.{◌≡◌, ℕ, Bool, true, false, List, [], ◌∷◌, Option, Some, if◌then◌else◌, codes}
use Rattle.serde_json.specs.Data.{Data, number, unsigned, string, object, member, no_members}
use Rattle.serde_json.specs.Written.{compact_text}
use Rattle.scp_script_text.specs.scp_text.specs.Pieces.{same}
use Rattle.scp_script_text.specs.declared.bytes.Spelling.{Spelling}
use Rattle.scp_script_text.specs.declared.bytes.Spelling.TheVariants as spellings
use Rattle.scp_script_text.specs.Decoding.{spelled, bytes_in}
use Rattle.scp_prompt.specs.declared.asked.Kind.{Kind}
use Rattle.scp_prompt.specs.declared.asked.Kind.TheVariants as kinds
use Rattle.scp_prompt.specs.declared.asked.Coding.{Coding}
use Rattle.scp_prompt.specs.declared.asked.Coding.TheVariants as codings
use Rattle.scp_prompt.specs.declared.asked.Way.{Way}
use Rattle.scp_prompt.specs.declared.asked.Way.TheVariants as ways
use Rattle.scp_prompt.specs.declared.asked.Conversion.{Conversion}
use Rattle.scp_convert.specs.Kinds.{IsShown, Says}

-- how the bytes of a word are encoded
abbrev pub spelling_of : Coding → Spelling
spelling_of codings.Hex = spellings.Hex
spelling_of codings.Base64 = spellings.Base64

-- the bytes that a word says, where a dash says the empty value
abbrev pub bytes_of_word : Kind → Coding → List ℕ → Option (List ℕ)
bytes_of_word kinds.Value coding word = if same word (codes "-") then Some [] else bytes_in (spelling_of coding) word
bytes_of_word kind coding word = bytes_in (spelling_of coding) word

-- the word of a value's bytes: a dash for none
abbrev pub word_of_value : Coding → List ℕ → List ℕ
word_of_value coding [] = codes "-"
word_of_value coding (byte ∷ bytes) = spelled (spelling_of coding) (byte ∷ bytes)

-- the word that says bytes
abbrev pub word_of_bytes : Kind → Coding → List ℕ → List ℕ
word_of_bytes kinds.Value coding bytes = word_of_value coding bytes
word_of_bytes kind coding bytes = spelled (spelling_of coding) bytes

-- the word says the bytes of one of this kind, and the text is its text
abbrev pub IsDecodedAs : Kind → Coding → List ℕ → List ℕ → Type 0
IsDecodedAs kind coding word text = (bytes : List ℕ) × (bytes_of_word kind coding word ≡ Some bytes) × IsShown kind bytes text

-- the text says one of this kind, and the word says its bytes
abbrev pub IsEncodedAs : Kind → Coding → List ℕ → List ℕ → Type 0
IsEncodedAs kind coding text word = (bytes : List ℕ) × Says kind text bytes × (word ≡ word_of_bytes kind coding bytes)

-- what is made of a line, one way
abbrev pub IsMadeOf : Way → Kind → Coding → List ℕ → List ℕ → Type 0
IsMadeOf ways.Decode kind coding line made = IsDecodedAs kind coding line made
IsMadeOf ways.Encode kind coding line made = IsEncodedAs kind coding line made

-- ---- JSON

-- the word of a kind
abbrev pub kind_word : Kind → List ℕ
kind_word kinds.Message = codes "message"
kind_word kinds.Envelope = codes "envelope"
kind_word kinds.Statement = codes "statement"
kind_word kinds.Set = codes "set"
kind_word kinds.Value = codes "value"

-- what was made of the line of this number, as an object
abbrev pub made_json : Way → Kind → ℕ → List ℕ → Data
made_json ways.Decode kind line made = object (member (codes "as") (string (kind_word kind)) (member (codes "line") (number (unsigned line)) (member (codes "text") (string made) no_members)))
made_json ways.Encode kind line made = object (member (codes "as") (string (kind_word kind)) (member (codes "bytes") (string made) (member (codes "line") (number (unsigned line)) no_members)))

-- what is written of it: the object in one line, where that is asked for
abbrev pub written_by : Bool → Way → Kind → ℕ → List ℕ → List ℕ
written_by true way kind line made = compact_text (made_json way kind line made)
written_by false way kind line made = made

-- the line of this number is converted to this text
abbrev pub IsConverted : Conversion → ℕ → List ℕ → List ℕ → Type 0
IsConverted conversion place line text =
    (made : List ℕ) × IsMadeOf conversion.way conversion.kind conversion.coding line made × (text ≡ written_by conversion.json conversion.way conversion.kind place made)
