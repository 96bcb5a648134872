-- The pieces of the notation: printable words, items in brackets, numbers and digits (this project's profile).
use Rattle.std.specs.Prelude.{ℕ, ◌+◌, ◌-◌, ◌^◌, Bool, false, not, ◌&&◌, ◌||◌, List, [], ◌∷◌, ◌++◌, length, take, drop, Option, Some, None, if◌then◌else◌, nat_eq, nat_lt, nat_le}
use Rattle.std.specs.Result.{result_ok}
use Rattle.std.specs.Cmp.Lexicographic.{pointwise}
use Rattle.std.specs.Fmt.{decimal}
use Rattle.std.specs.Str.Parse.{digits_value}
use Rattle.std.specs.List.{list_all, onto_first}
use Rattle.hex.specs.Hex.{decode_of}

-- the second step, if the first found something
infixl 10 ◌>>=◌
-- one reading after another; none where one finds none
abbrev pub ◌>>=◌ : {A B : Type 0} → Option A → (A → Option B) → Option B
(Some x) >>= f = f x
None >>= f = None

-- the same, as a word
abbrev pub and_then : {A B : Type 0} → Option A → (A → Option B) → Option B
and_then found f = found >>= f

-- the same bytes
abbrev pub same : List ℕ → List ℕ → Bool
same a b = pointwise nat_eq a b

-- printable ASCII without space, comma and round brackets
abbrev pub is_plain : ℕ → Bool
is_plain byte = nat_lt 32 byte && nat_lt byte 127 && not (nat_eq byte 40 || nat_eq byte 41 || nat_eq byte 44)

-- at least one byte, each of them plain
abbrev pub is_word : List ℕ → Bool
is_word [] = false
is_word (byte ∷ bytes) = list_all is_plain (byte ∷ bytes)

-- texts in a row, with the mark between them, and before the first too unless it is the first of all
abbrev pub listed : ℕ → Bool → List (List ℕ) → List ℕ
listed mark first [] = []
listed mark first (text ∷ texts) = (if first then text else mark ∷ text) ++ listed mark false texts

-- a name with its opening bracket, what stands inside, and the closing bracket
abbrev pub bracketed : List ℕ → List ℕ → List ℕ
bracketed name inner = name ++ (inner ++ 41 ∷ [])

-- the text behind this front, where it begins with that
abbrev pub without_front : List ℕ → List ℕ → Option (List ℕ)
without_front front text = if same (take (length front) text) front then Some (drop (length front) text) else None

-- the text before this end, where it ends with that
abbrev pub without_end : List ℕ → List ℕ → Option (List ℕ)
without_end end text = if same (drop (length text - length end) text) end then Some (take (length text - length end) text) else None

-- what stands between the name with its opening bracket, and a closing bracket at the end
unfoldable pub inside : List ℕ → List ℕ → Option (List ℕ)
inside name text = do
  rest ← without_front name text
  without_end (41 ∷ []) rest

-- a comma that stands in no bracket
abbrev pub cuts : ℕ → ℕ → Bool
cuts byte depth = nat_eq byte 44 && nat_eq depth 0

-- how many brackets are open behind a byte
abbrev pub depth_after : ℕ → ℕ → ℕ
depth_after byte depth = if nat_eq byte 40 then depth + 1 else (if nat_eq byte 41 then depth - 1 else depth)

-- the parts of a text at so many brackets deep, cut at each comma that stands in none
unfoldable pub parts : ℕ → List ℕ → List (List ℕ)
parts depth [] = [] ∷ []
parts depth (byte ∷ bytes) =
    if cuts byte depth then [] ∷ parts depth bytes
    else onto_first byte (parts (depth_after byte depth) bytes)

-- the items that commas part; a text of nothing has none
abbrev pub items_in : List ℕ → List (List ℕ)
items_in [] = []
items_in (byte ∷ bytes) = parts 0 (byte ∷ bytes)

-- what each of the texts says, if each says something
abbrev pub all_of : {A : Type 0} → (List ℕ → Option A) → List (List ℕ) → Option (List A)
all_of says [] = Some []
all_of says (text ∷ texts) = do
  first ← says text
  others ← all_of says texts
  Some (first ∷ others)

-- a number below 2^64, in decimal digits without sign or leading zero
abbrev pub number_in : List ℕ → Option ℕ
number_in word =
    if nat_lt (digits_value 10 word) (2 ^ 64) && same (decimal (digits_value 10 word)) word
    then Some (digits_value 10 word) else None

-- the bytes that hexadecimal digits in both cases say, an even number of them
unfoldable pub digits_in : List ℕ → Option (List ℕ)
digits_in text = result_ok (decode_of text)

-- the bytes, where they are so many at most
abbrev pub at_most : ℕ → List ℕ → Option (List ℕ)
at_most limit bytes = if nat_le (length bytes) limit then Some bytes else None
