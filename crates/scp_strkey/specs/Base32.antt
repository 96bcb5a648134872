-- Base32 (RFC 4648, section 6).
use Rattle.std.specs.Prelude.{ℕ, zero, suc, ◌+◌, ◌*◌, ◌/◌, ◌%◌, List, [], ◌∷◌, ◌++◌, nat_lt, if◌then◌else◌, fold}

-- the letter of five bits: A to Z, and then 2 to 7
abbrev pub letter : ℕ → ℕ
letter n = if nat_lt n 26 then 65 + n else 24 + n

-- the last letters of a number in base 32, this many
abbrev pub letters : ℕ → ℕ → List ℕ
letters zero n = []
letters (suc k) n = letters k (n / 32) ++ letter (n % 32) ∷ []

-- the number that bytes are, the highest first
abbrev pub number_in : List ℕ → ℕ
number_in bytes = fold (λ n b. n * 256 + b) 0 bytes

-- the eight letters of five bytes, which are 40 bits
abbrev pub letters_of : List ℕ → List ℕ
letters_of bytes = letters 8 (number_in bytes)

-- bytes in Base32, five by five; fewer at the end are left out
abbrev pub base32 : List ℕ → List ℕ
base32 (a ∷ b ∷ c ∷ d ∷ e ∷ rest) = letters_of (a ∷ b ∷ c ∷ d ∷ e ∷ []) ++ base32 rest
base32 bytes = []
