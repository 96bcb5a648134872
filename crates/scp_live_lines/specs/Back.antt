-- What a host reads back from the lines that it was sent (this project's profile).
use Rattle.std.specs.Prelude.{ℕ, ◌≡◌, ◌≢◌, ◌++◌, List, [], ◌∷◌, Option, None, All, codes, flat_map, option_map, option_to_list, if◌then◌else◌}
use Rattle.hex.specs.Hex.{IsBytes}
use Rattle.scp_script.specs.Words.{lines_of, words_of, same, hex_bytes}

-- What the words of a `send` line say was sent: the peer's name, and the bytes. The words of any other line say nothing.
abbrev pub sent_by : List (List ℕ) → Option (List ℕ × List ℕ)
sent_by [] = None
sent_by (verb ∷ []) = None
sent_by (verb ∷ name ∷ []) = None
sent_by (verb ∷ name ∷ digits ∷ []) = if same verb (codes "send") then option_map (λ bytes. (name, bytes)) (hex_bytes digits) else None
sent_by (verb ∷ name ∷ digits ∷ other ∷ words) = None

-- What a line says was sent: one message, or none if it is no `send` line.
abbrev pub sent_on : List ℕ → List (List ℕ × List ℕ)
sent_on line = option_to_list (sent_by (words_of line))

-- What the lines of a text say was sent, in their order.
abbrev pub sent_in : List ℕ → List (List ℕ × List ℕ)
sent_in text = flat_map sent_on (lines_of text)

-- A name that can be one word of a line. It contains no space and no line feed.
abbrev pub IsWord : List ℕ → Type 0
IsWord name = All (λ byte. (byte ≢ 32) × (byte ≢ 10)) name

-- A message for a peer whose name can be one word of a line.
abbrev pub IsSending : List ℕ × List ℕ → Type 0
IsSending s = IsWord s.0 × IsBytes s.1

-- The text says of no message that it was sent, and it doesn't change what any text after it says.
abbrev pub SaysNothing : List ℕ → Type 0
SaysNothing text = (more : List ℕ) → sent_in (text ++ more) ≡ sent_in more
