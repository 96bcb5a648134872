-- Lines, their words, and what single words say (this project's profile).
use Rattle.std.specs.Prelude.{ℕ, true, ◌-◌, ◌^◌, ◌==◌, Bool, ◌&&◌, List, [], ◌∷◌, Option, Some, None, option_map, if◌then◌else◌, nat_eq, nat_lt, nat_le, codes}
use Rattle.std.specs.Result.{result_ok}
use Rattle.std.specs.Cmp.Lexicographic.{pointwise}
use Rattle.std.specs.Fmt.{decimal}
use Rattle.std.specs.Str.Parse.{digits_value}
use Rattle.std.specs.List.{slice_split, list_all}
use Rattle.scp_wire.specs.scp_types.specs.declared.limits.TheConstants.{CAPACITY_LIMIT}
use Rattle.hex.specs.Hex.{decode_of}
use Rattle.scp_wire.specs.scp_xdr.specs.Reading.{reading_whole}
use Rattle.scp_wire.specs.scp_quorum.specs.QuorumTree.{QuorumTree}
use Rattle.scp_wire.specs.scp_quorum.specs.QuorumKind.{set_kind, quorum_set_of}

-- the lines of a text; the last may end without a line feed
abbrev pub lines_of : List ℕ → List (List ℕ)
lines_of text = slice_split (λ byte. byte == 10) text

-- no byte is over 127
abbrev pub is_ascii : List ℕ → Bool
is_ascii line = list_all (λ byte. nat_lt byte 128) line

-- an empty line, or a comment, which begins with a number sign
abbrev pub is_skipped : List ℕ → Bool
is_skipped [] = true
is_skipped (byte ∷ bytes) = byte == 35

-- the words of a line, separated by single spaces; a line that is skipped has none
abbrev pub words_of : List ℕ → List (List ℕ)
words_of line = if is_skipped line then [] else slice_split (λ byte. byte == 32) line

-- both words are the same bytes
abbrev pub same : List ℕ → List ℕ → Bool
same a b = pointwise nat_eq a b

-- the number of a node, from 1 to 8: one decimal digit
abbrev pub node_in : List ℕ → Option ℕ
node_in [] = None
node_in (digit ∷ []) = if nat_le 49 digit && nat_le digit 56 then Some (digit - 48) else None
node_in (digit ∷ other ∷ digits) = None

-- the link between two nodes, if both are given and they differ
abbrev pub link_by : Option ℕ → Option ℕ → Option (ℕ × ℕ)
link_by (Some from) (Some to) = if nat_eq from to then None else Some (from, to)
link_by (Some from) None = None
link_by None to = None

-- the link from the node that the first word names to the node that the second word names, if these two differ
abbrev pub link_in : List ℕ → List ℕ → Option (ℕ × ℕ)
link_in from to = link_by (node_in from) (node_in to)

-- a number below 2^64, in decimal digits without a sign or a leading zero
abbrev pub number_in : List ℕ → Option ℕ
number_in word =
    if nat_lt (digits_value 10 word) (2 ^ 64) && same (decimal (digits_value 10 word)) word
    then Some (digits_value 10 word) else None

-- the number if one is given and it is from 1 to 1,024
abbrev pub capacity_by : Option ℕ → Option ℕ
capacity_by (Some number) = if nat_le 1 number && nat_le number CAPACITY_LIMIT then Some number else None
capacity_by None = None

-- a queue's capacity, from 1 to 1,024
abbrev pub capacity_in : List ℕ → Option ℕ
capacity_in word = capacity_by (number_in word)

-- the bytes that a word of hex digits encodes, at least one
abbrev pub digits_bytes : List ℕ → Option (List ℕ)
digits_bytes [] = None
digits_bytes (digit ∷ digits) = result_ok (decode_of (digit ∷ digits))

-- the bytes that a word of hex digits encodes, an even number of digits, or no bytes for a dash
abbrev pub hex_bytes : List ℕ → Option (List ℕ)
hex_bytes word = if same word (codes "-") then Some [] else digits_bytes word

-- the quorum set that the bytes encode, with no bytes left over
abbrev pub set_in : Option (List ℕ) → Option QuorumTree
set_in (Some bytes) = option_map quorum_set_of (result_ok (reading_whole set_kind bytes))
set_in None = None
