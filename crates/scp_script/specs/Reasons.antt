-- Which word of a line is bad, and what was expected there (this project's profile).
use Rattle.std.specs.Prelude.{◌≡◌, ◌⊎◌, ◌==◌, ℕ, ◌+◌, Bool, true, false, not, ◌&&◌, List, [], ◌∷◌, length, Option, Some, None, is_some, if◌then◌else◌, nat_eq, nat_lt, nat_le, codes, slice_get}
use Rattle.std.specs.Option.{unwrap_or}
use Rattle.std.specs.List.{slice_split}
use Rattle.scp_wire.specs.scp_types.specs.declared.limits.TheConstants.{LIFE_LIMIT, NODE_LIMIT}
use Rattle.scp_wire.specs.scp_quorum.specs.QuorumTree.{QuorumTree}
use Rattle.scp_wire.specs.scp_quorum.specs.Sane.{IsSane}
use Rattle.scp_script.specs.declared.command.Command.{Command}
use Rattle.scp_device.specs.declared.bad.Expected.{Expected}
use Rattle.scp_device.specs.declared.bad.Expected.TheVariants.{Ascii, NoMark, NoReturn, NoTab, OneSpace, AVerb, NodesFirst, NodesOnce, CapsFirst, SetsFirst, ACapacity, ACount, AThreshold, ANode, AnotherNode, ASlot, ANumber, Digits, ASet, ASaneSet, NoMore, AClosedLink, FewerLives, AnOpenLink}
use Rattle.scp_device.specs.declared.bad.BadWord.{BadWord}
use Rattle.scp_script.specs.declared.reason.Verb.{Verb}
use Rattle.scp_script.specs.declared.reason.Verb.TheVariants as verbs
use Rattle.scp_script.specs.declared.reason.Kind.{Kind}
use Rattle.scp_script.specs.declared.reason.Kind.TheVariants as kinds
use Rattle.scp_script.specs.Words.{is_ascii, is_skipped, same, node_in, link_in, number_in, capacity_in, hex_bytes, set_in}
use Rattle.scp_script.specs.Script.{node_count, has_begun, is_open, lives}

-- the first if there is one, or else the second
abbrev pub or_else : {A : Type 0} → Option A → Option A → Option A
or_else (Some first) second = Some first
or_else None second = second

-- the refusal of the word with this number, if something else was expected there
abbrev pub at_word : ℕ → Option Expected → Option BadWord
at_word word (Some expected) = Some (record { word = word; expected = expected })
at_word word None = None

-- what was expected, unless the word is good
abbrev pub if_not : Bool → Expected → Option Expected
if_not good expected = if good then None else Some expected

-- the refusal of the first word that is wrong; the first of these words has this number
abbrev pub first_wrong : (List ℕ → Option Expected) → ℕ → List (List ℕ) → Option BadWord
first_wrong wrong place [] = None
first_wrong wrong place (word ∷ words) = or_else (at_word place (wrong word)) (first_wrong wrong (place + 1) words)

-- ---- bytes

-- the parts of a line between single spaces
abbrev pub parts_of : List ℕ → List (List ℕ)
parts_of line = slice_split (λ byte. byte == 32) line

-- the line begins with the bytes EF BB BF, the byte order mark
abbrev pub is_marked : List ℕ → Bool
is_marked [] = false
is_marked (a ∷ []) = false
is_marked (a ∷ b ∷ []) = false
is_marked (a ∷ b ∷ c ∷ bytes) = nat_eq a 239 && (nat_eq b 187 && nat_eq c 191)

-- what was expected in place of a word with a byte over 127; nothing if the word is ASCII
abbrev pub foreign_in : Expected → List ℕ → Option Expected
foreign_in expected word = if_not (is_ascii word) expected

-- what is expected of a line with bytes over 127: no byte order mark if the line begins with one, or else ASCII
abbrev pub mark_in : List ℕ → Expected
mark_in line = if is_marked line then NoMark else Ascii

-- what was expected in place of the first carriage return or tab of a word; nothing if it has neither
abbrev pub blank_in : List ℕ → Option Expected
blank_in [] = None
blank_in (byte ∷ bytes) = if nat_eq byte 13 then Some NoReturn else (if nat_eq byte 9 then Some NoTab else blank_in bytes)

-- the word has no bytes
abbrev pub is_nothing : List ℕ → Bool
is_nothing [] = true
is_nothing (byte ∷ bytes) = false

-- what was expected in place of a word of no bytes, which follows one space too many: one space
abbrev pub nothing_in : List ℕ → Option Expected
nothing_in word = if is_nothing word then Some OneSpace else None

-- the refusal of the first word with a byte over 127
abbrev pub foreign_fault : List ℕ → Option BadWord
foreign_fault line = first_wrong (foreign_in (mark_in line)) 1 (parts_of line)

-- the refusal of the first word with a carriage return or a tab; if there is none, of the first word of no bytes
abbrev pub blank_fault : List ℕ → Option BadWord
blank_fault line = or_else (first_wrong blank_in 1 (parts_of line)) (first_wrong nothing_in 1 (parts_of line))

-- the refusal of the first word with bytes that no line may have; in a comment these are only the bytes over 127
abbrev pub byte_fault : List ℕ → Option BadWord
byte_fault line = if is_ascii line then (if is_skipped line then None else blank_fault line) else foreign_fault line

-- ---- words

-- the verb that the first word is, if it is one
abbrev pub verb_in : List ℕ → Option Verb
verb_in word =
    if same word (codes "caps") then Some verbs.Caps
    else (if same word (codes "nodes") then Some verbs.Nodes
    else (if same word (codes "set") then Some verbs.Set
    else (if same word (codes "open") then Some verbs.Open
    else (if same word (codes "close") then Some verbs.Close
    else (if same word (codes "send") then Some verbs.Send
    else (if same word (codes "propose") then Some verbs.Propose
    else (if same word (codes "round") then Some verbs.Round
    else (if same word (codes "timer") then Some verbs.Timer
    else (if same word (codes "tick") then Some verbs.Tick
    else (if same word (codes "ask") then Some verbs.Ask
    else (if same word (codes "settle") then Some verbs.Settle
    else (if same word (codes "wait") then Some verbs.Wait
    else (if same word (codes "report") then Some verbs.Report else None)))))))))))))

-- what the words after the first one must be, by the verb
abbrev pub kinds_in : Verb → List Kind
kinds_in verbs.Caps = kinds.Capacity ∷ kinds.Capacity ∷ kinds.Capacity ∷ kinds.Capacity ∷ []
kinds_in verbs.Nodes = kinds.Count ∷ kinds.Threshold ∷ []
kinds_in verbs.Set = kinds.Node ∷ kinds.Set ∷ []
kinds_in verbs.Open = kinds.Node ∷ kinds.Another ∷ []
kinds_in verbs.Close = kinds.Node ∷ kinds.Another ∷ []
kinds_in verbs.Send = kinds.Node ∷ kinds.Another ∷ kinds.Digits ∷ []
kinds_in verbs.Propose = kinds.Node ∷ kinds.Slot ∷ kinds.Digits ∷ []
kinds_in verbs.Round = kinds.Node ∷ kinds.Slot ∷ []
kinds_in verbs.Timer = kinds.Node ∷ kinds.Slot ∷ []
kinds_in verbs.Tick = kinds.Node ∷ []
kinds_in verbs.Ask = kinds.Node ∷ kinds.Another ∷ kinds.Slot ∷ []
kinds_in verbs.Settle = []
kinds_in verbs.Wait = kinds.Node ∷ kinds.Number ∷ []
kinds_in verbs.Report = kinds.Node ∷ []

-- What was expected if a line with this verb comes in the wrong order. `caps` and `nodes` come before there are nodes, `set` before the
-- lines that act, and all lines but `caps` and `nodes` once there are nodes.
abbrev pub order_fault : Verb → ℕ → Bool → Option Expected
order_fault verbs.Caps count begun = if_not (nat_eq count 0) CapsFirst
order_fault verbs.Nodes count begun = if_not (nat_eq count 0) NodesOnce
order_fault verbs.Set count begun = if nat_eq count 0 then Some NodesFirst else (if begun then Some SetsFirst else None)
order_fault verb count begun = if nat_eq count 0 then Some NodesFirst else None

-- there is a number, and it is at most this
abbrev pub is_most : ℕ → Option ℕ → Bool
is_most most (Some number) = nat_le number most
is_most most None = false

-- why a word isn't a sane quorum set: it encodes no quorum set, or one that isn't sane; nothing if it is one
abbrev pub IsSetFault : Option QuorumTree → Option Expected → Type 0
IsSetFault (Some set) found = (IsSane set × (found ≡ None)) ⊎ ((¬ (IsSane set)) × (found ≡ Some ASaneSet))
IsSetFault None found = found ≡ Some ASet

-- what was expected if a word isn't of this kind, by how many nodes there are and by the word before it
abbrev pub kind_fault : Kind → ℕ → List ℕ → List ℕ → Option Expected
kind_fault kinds.Capacity count before word = if_not (is_some (capacity_in word)) ACapacity
kind_fault kinds.Count count before word = if_not (is_most NODE_LIMIT (node_in word)) ACount
kind_fault kinds.Threshold count before word = if_not (is_most (unwrap_or (node_in before) NODE_LIMIT) (node_in word)) (AThreshold (unwrap_or (node_in before) NODE_LIMIT))
kind_fault kinds.Node count before word = if_not (is_most count (node_in word)) (ANode count)
kind_fault kinds.Another count before word = if_not (is_most count (node_in word) && not (same before word)) (AnotherNode count)
kind_fault kinds.Slot count before word = if_not (is_some (number_in word)) ASlot
kind_fault kinds.Number count before word = if_not (is_some (number_in word)) ANumber
kind_fault kinds.Digits count before word = if_not (is_some (hex_bytes word)) Digits
kind_fault kinds.Set count before word = if_not (is_some (set_in (hex_bytes word))) ASet

-- what was expected if a word isn't of this kind, by the word before it; a quorum set must also be sane
abbrev pub IsKindFault : Kind → ℕ → List ℕ → List ℕ → Option Expected → Type 0
IsKindFault kinds.Set count before word found = IsSetFault (set_in (hex_bytes word)) found
IsKindFault kind count before word found = found ≡ kind_fault kind count before word

-- the word at a place, from 0 on, or no bytes if there is no such word
abbrev pub word_at : List (List ℕ) → ℕ → List ℕ
word_at words place = unwrap_or (slice_get words place) []

-- the refusal of the first word after this place that isn't of its kind, or is one word too many
abbrev pub IsKindsFault : List Kind → ℕ → List (List ℕ) → ℕ → Option BadWord → Type 0
IsKindsFault [] count words place found = found ≡ (if nat_lt (place + 1) (length words) then Some (record { word = place + 2; expected = NoMore }) else None)
IsKindsFault (kind ∷ others) count words place found =
    (IsKindFault kind count (word_at words place) (word_at words (place + 1)) None × IsKindsFault others count words (place + 1) found)
    ⊎ ((expected : Expected) × IsKindFault kind count (word_at words place) (word_at words (place + 1)) (Some expected) × (found ≡ Some (record { word = place + 2; expected = expected })))

-- What was expected if a link's state doesn't admit this verb. A link is opened only if it isn't open and was opened fewer than 65,535
-- times. It is closed and sent on only if it is open.
abbrev pub link_fault : Verb → Bool → ℕ → Option Expected
link_fault verbs.Open opened lives = if opened then Some AClosedLink else if_not (nat_lt lives LIFE_LIMIT) FewerLives
link_fault verbs.Close opened lives = if_not opened AnOpenLink
link_fault verbs.Send opened lives = if_not opened AnOpenLink
link_fault verb opened lives = None

-- the same for the link that the words name, if they name one
abbrev pub link_fault_by : Verb → Option (ℕ × ℕ) → List Command → Option Expected
link_fault_by verb (Some link) before = link_fault verb (is_open link.0 link.1 before) (lives link.0 link.1 before)
link_fault_by verb None before = None

-- the first bad word: the first word if it comes in the wrong order, else the others from left to right, else the link
abbrev pub IsPlacedFault : Option Expected → Verb → List Command → List (List ℕ) → Option BadWord → Type 0
IsPlacedFault (Some expected) verb before words found = found ≡ Some (record { word = 1; expected = expected })
IsPlacedFault None verb before words found =
    (first : Option BadWord) × IsKindsFault (kinds_in verb) (node_count before) words 0 first
    × (found ≡ or_else first (at_word 2 (link_fault_by verb (link_in (word_at words 1) (word_at words 2)) before)))

-- the first bad word, by the verb; if the first word is no verb, it is that one
abbrev pub IsWordFaultBy : Option Verb → List Command → List (List ℕ) → Option BadWord → Type 0
IsWordFaultBy None before words found = found ≡ Some (record { word = 1; expected = AVerb })
IsWordFaultBy (Some verb) before words found = IsPlacedFault (order_fault verb (node_count before) (has_begun before)) verb before words found

-- the first bad word of a line after these commands: its first word, then the others from left to right, then the link
abbrev pub IsWordFault : List Command → List (List ℕ) → Option BadWord → Type 0
IsWordFault before words found = IsWordFaultBy (verb_in (word_at words 0)) before words found

-- the fault in the bytes if there is one, else the first bad word
abbrev pub IsFaultBehind : Option BadWord → List Command → List ℕ → Option BadWord → Type 0
IsFaultBehind (Some refusal) before line found = found ≡ Some refusal
IsFaultBehind None before line found = IsWordFault before (slice_split (λ byte. byte == 32) line) found

-- The first bad word of a line, by whether it is ASCII and whether it is skipped. A comment is bad only for bytes over 127.
abbrev pub IsFaultOf : Bool → Bool → List Command → List ℕ → Option BadWord → Type 0
IsFaultOf false skipped before line found = found ≡ foreign_fault line
IsFaultOf true true before line found = found ≡ None
IsFaultOf true false before line found = IsFaultBehind (blank_fault line) before line found

-- The first bad word of a line after these commands, if the line is bad. The bytes of the line are judged first, and then what its words
-- say.
abbrev pub IsLineFault : List Command → List ℕ → Option BadWord → Type 0
IsLineFault before line found = IsFaultOf (is_ascii line) (is_skipped line) before line found
