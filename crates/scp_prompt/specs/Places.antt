-- Words by their places in a text, and the line that reports a bad one (this project's profile).
use Rattle.std.specs.Prelude.{ℕ, zero, suc, ◌≡◌, ◌==◌, ◌&&◌, ◌⊎◌, nat_le, nat_lt, if◌then◌else◌, List, [], ◌∷◌, ◌++◌, length, take, flat_map, Option, Some, None, codes}
use Rattle.std.specs.List.{slice_split, slice_get}
use Rattle.std.specs.Fmt.{decimal}
use Rattle.hex.specs.Hex.{encode_lower}

-- the part of a text at this place, counted from 1, if the text is split at this byte
abbrev pub part_in : List ℕ → ℕ → ℕ → Option (List ℕ)
part_in text end zero = None
part_in text end (suc place) = slice_get (slice_split (λ byte. byte == end) text) place

-- the word at this place of a line, if there is a line
abbrev pub word_of : Option (List ℕ) → ℕ → Option (List ℕ)
word_of None word = None
word_of (Some line) word = part_in line 32 word

-- The word at this line and place of a text. A line ends with a line feed, and a word with a space.
abbrev pub word_in : List ℕ → ℕ → ℕ → Option (List ℕ)
word_in text line word = word_of (part_in text 10 line) word

-- A byte of a word: itself if it is a visible ASCII character, else `\x` and its two hex digits.
abbrev pub shown_byte : ℕ → List ℕ
shown_byte byte = if nat_le 33 byte && nat_le byte 126 then byte ∷ [] else 92 ∷ 120 ∷ encode_lower (byte ∷ [])

-- a word as it is shown: its first 40 bytes, and two dots if there are more
abbrev pub shown : List ℕ → List ℕ
shown word = flat_map shown_byte (take 40 word) ++ (if nat_lt 40 (length word) then codes ".." else [])

-- the text at a place: the word in quotes, or `nothing` if there is none
abbrev pub stands_text : Option (List ℕ) → List ℕ
stands_text None = codes "nothing"
stands_text (Some []) = codes "nothing"
stands_text (Some (byte ∷ bytes)) = codes "'" ++ shown (byte ∷ bytes) ++ codes "'"

-- The text at a place of an input. It may be `something`, where it was out of memory to show it.
abbrev pub IsStanding : List ℕ → ℕ → ℕ → List ℕ → Type 0
IsStanding text line word stands = (stands ≡ stands_text (word_in text line word)) ⊎ (stands ≡ codes "something")

-- a place: the input's name, the line and the word
abbrev pub place_front : List ℕ → ℕ → ℕ → List ℕ
place_front name line word = name ++ codes ":" ++ decimal line ++ codes ":" ++ decimal word ++ codes ": "

-- the text at a place, and what was expected there
abbrev pub place_back : List ℕ → List ℕ → List ℕ
place_back stands expected = stands ++ codes " stands there, expected " ++ expected ++ codes "\n"

-- the line that reports a bad word
abbrev pub place_line : List ℕ → ℕ → ℕ → List ℕ → List ℕ → List ℕ
place_line name line word stands expected = place_front name line word ++ place_back stands expected
