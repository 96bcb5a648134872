-- One line of a script of nodes, with its message, value or quorum set in hex digits or as text (this project's profile).
use Rattle.std.specs.Prelude.{◌≡◌, ◌⊎◌, ◌≤◌, ◌<◌, ℕ, ◌+◌, List, [], ◌∷◌, ◌++◌, length, take, drop, Bool, true, Option, Some, None, Result, Ok, Err, if◌then◌else◌, codes}
use Rattle.std.specs.Fmt.{decimal}
use Rattle.std.specs.Result.{result_ok}
use Rattle.hex.specs.Hex.{encode_lower, decode_of}
use Rattle.scp_text.specs.scp_types.specs.declared.fault.Fault.{Fault}
use Rattle.scp_text.specs.scp_types.specs.declared.fault.Fault.TheVariants.{Malformed, TooLong}
use Rattle.scp_text.specs.scp_xdr.specs.Kind.{Spells}
use Rattle.scp_text.specs.scp_xdr.specs.Reading.{reading_whole}
use Rattle.scp_text.specs.scp_quorum.specs.QuorumTree.{QuorumTree}
use Rattle.scp_text.specs.scp_quorum.specs.QuorumKind.{set_kind, set_value}
use Rattle.scp_text.specs.scp_wire.specs.declared.message.Message.{Message as LinkMessage}
use Rattle.scp_text.specs.scp_wire.specs.Message.{message_value, message_reading, SpellsMessage}
use Rattle.scp_text.specs.Pieces.{same}
use Rattle.scp_text.specs.Values.{value_text, value_in}
use Rattle.scp_text.specs.Sets.{set_text, set_in}
use Rattle.scp_text.specs.Messages.{◌>>=◌, or_refused, message_in, message_text, IsRefusedMessage, Answers}
use Rattle.scp_text.specs.scp_device.specs.declared.bad.BadWord.{BadWord}
use Rattle.scp_text.specs.scp_device.specs.declared.bad.WordFault.{WordFault}
use Rattle.scp_text.specs.scp_device.specs.declared.bad.WordFault.TheVariants.{NoMemory, Bad}
use Rattle.scp_text.specs.scp_device.specs.declared.bad.Expected.{Expected}
use Rattle.scp_text.specs.scp_device.specs.declared.bad.Expected.TheVariants.{AValue, ASet, Digits, NoMore}
use Rattle.scp_script_text.specs.declared.nodes.Carried.{Carried}
use Rattle.scp_script_text.specs.declared.nodes.Carried.TheVariants.{Message, Value, Set}

-- what a line carries, by its first word
abbrev pub carried_by : List ℕ → Option Carried
carried_by verb =
    if same verb (codes "send") then Some Message
    else (if same verb (codes "propose") then Some Value
    else (if same verb (codes "set") then Some Set else None))

-- what a line carries, by its words
abbrev pub carried_in : List (List ℕ) → Option Carried
carried_in [] = None
carried_in (verb ∷ words) = carried_by verb

-- how many words come before what a line carries: `send I J`, `propose I SLOT`, `set I`
abbrev pub words_before : Carried → ℕ
words_before Message = 3
words_before Value = 3
words_before Set = 2

-- the words, each followed by a space, and then the last part
abbrev pub before : List (List ℕ) → List ℕ → List ℕ
before [] last = last
before (word ∷ words) last = word ++ 32 ∷ before words last

-- no word follows
abbrev pub ends : List (List ℕ) → Result Bool BadWord
ends [] = Ok true
ends (word ∷ words) = Err (record { word = 2; expected = NoMore })

-- what the only word says; refused if there is no word, if it says nothing, or if another word follows
abbrev pub only_word : {A : Type 0} → (List ℕ → Option A) → Expected → List (List ℕ) → Result A BadWord
only_word says expected [] = Err (record { word = 1; expected = expected })
only_word says expected (word ∷ words) = or_refused (says word) 1 expected >>= (λ x. ends words >>= (λ done. Ok x))

-- ---- digits

-- the lower-case hex digits of bytes, or a dash for no bytes
abbrev pub digits_of : List ℕ → List ℕ
digits_of [] = codes "-"
digits_of (byte ∷ bytes) = encode_lower (byte ∷ bytes)

-- the bytes that a word of hex digits encodes, at least one
abbrev pub some_bytes : List ℕ → Option (List ℕ)
some_bytes [] = None
some_bytes (digit ∷ digits) = result_ok (decode_of (digit ∷ digits))

-- the bytes that a word of hex digits encodes, or no bytes for a dash
abbrev pub bytes_in : List ℕ → Option (List ℕ)
bytes_in word = if same word (codes "-") then Some [] else some_bytes word

-- the bytes of the only word, which must be hex digits or a dash
abbrev pub digits_at : List (List ℕ) → Result (List ℕ) BadWord
digits_at words = only_word bytes_in Digits words

-- there is only one word, and it is hex digits or a dash
abbrev pub AreDigits : List (List ℕ) → Type 0
AreDigits words = (bytes : List ℕ) × (digits_at words ≡ Ok bytes)

-- ---- from text to digits

-- the words say a message, a value or a quorum set that these bytes encode
abbrev pub Say : Carried → List (List ℕ) → List ℕ → Type 0
Say Message words bytes = (m : LinkMessage) × (message_in words ≡ Ok m) × SpellsMessage bytes (message_value m)
Say Value words bytes = only_word value_in AValue words ≡ Ok bytes
Say Set words bytes = (s : QuorumTree) × (only_word set_in ASet words ≡ Ok s) × Spells set_kind bytes (set_value s)

-- why the words say nothing of this kind: out of memory, or the first word that is refused
abbrev pub AreRefused : Carried → List (List ℕ) → WordFault → Type 0
AreRefused Message words error = IsRefusedMessage words error
AreRefused Value words error = Answers (Err error) (only_word value_in AValue words)
AreRefused Set words error = Answers (Err error) (only_word set_in ASet words)

-- the line with its text in hex digits, or the line as it is if it has hex digits already
abbrev pub IsHexOf : Carried → List (List ℕ) → List ℕ → List ℕ → Type 0
IsHexOf c words line out =
    ((bytes : List ℕ) × Say c (drop (words_before c) words) bytes × (out ≡ before (take (words_before c) words) (digits_of bytes)))
    ⊎ ((refusal : BadWord) × AreRefused c (drop (words_before c) words) (Bad refusal) × AreDigits (drop (words_before c) words) × (out ≡ line))

-- The line can't be in hex digits: out of memory, or it has neither a text nor hex digits. The word that is refused is reported by its
-- place in the line.
abbrev pub IsNoHex : Carried → List (List ℕ) → WordFault → Type 0
IsNoHex c words NoMemory = Unit {0}
IsNoHex c words (Bad refusal) =
    (word : ℕ) × AreRefused c (drop (words_before c) words) (Bad (record { word = word; expected = refusal.expected }))
    × (¬ (AreDigits (drop (words_before c) words))) × (refusal.word ≡ word + words_before c)

-- ---- from digits to text

-- the bytes encode a message, a value or a quorum set with this text; a value has at most 4,096 bytes
abbrev pub IsShown : Carried → List ℕ → List ℕ → Type 0
IsShown Message bytes text = (m : LinkMessage) × SpellsMessage bytes (message_value m) × (text ≡ message_text m)
IsShown Value bytes text = (length bytes ≤ 4096) × (text ≡ value_text bytes)
IsShown Set bytes text = (s : QuorumTree) × Spells set_kind bytes (set_value s) × (text ≡ set_text s)

-- the bytes encode nothing of this kind, and this is their first fault
abbrev pub IsUnread : Carried → List ℕ → Fault → Type 0
IsUnread Message bytes fault = message_reading bytes ≡ Err fault
IsUnread Value bytes fault = (4096 < length bytes) × (fault ≡ TooLong)
IsUnread Set bytes fault = reading_whole set_kind bytes ≡ Err fault

-- the name of what a line carries
abbrev pub name_of : Carried → List ℕ
name_of Message = codes "message"
name_of Value = codes "value"
name_of Set = codes "set"

-- why the bytes encode nothing of this kind, in words
abbrev pub fault_text : Fault → List ℕ
fault_text (Malformed place) = codes "malformed at " ++ decimal place
fault_text fault = codes "too long"

-- the comment above hex digits that encode nothing of this kind
abbrev pub comment : Carried → Fault → List ℕ
comment c fault = codes "# " ++ name_of c ++ codes ": " ++ fault_text fault ++ codes "\n"

-- the first words with the bytes as text, or, if the bytes encode nothing of this kind, the line as it is below a comment
abbrev pub IsTextLine : Carried → List (List ℕ) → List ℕ → List ℕ → List ℕ → Type 0
IsTextLine c words line bytes out =
    ((text : List ℕ) × IsShown c bytes text × (out ≡ before words text))
    ⊎ ((fault : Fault) × IsUnread c bytes fault × (out ≡ comment c fault ++ line))

-- the line with its hex digits as text
abbrev pub IsTextOf : Carried → List (List ℕ) → List ℕ → List ℕ → Type 0
IsTextOf c words line out = (bytes : List ℕ) × (digits_at (drop (words_before c) words) ≡ Ok bytes) × IsTextLine c (take (words_before c) words) line bytes out

-- The line can't be as text: out of memory, or it has no hex digits. The word that is refused is reported by its place in the line.
abbrev pub IsNoText : Carried → List (List ℕ) → WordFault → Type 0
IsNoText c words NoMemory = Unit {0}
IsNoText c words (Bad refusal) =
    (word : ℕ) × (digits_at (drop (words_before c) words) ≡ Err (record { word = word; expected = refusal.expected }))
    × (refusal.word ≡ word + words_before c)
