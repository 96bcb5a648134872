-- What was decoded is encoded as the same bytes again (this project's profile).
use Rattle.std.specs.Prelude.{◌≡◌, ℕ, List, Some}
use Rattle.scp_prompt.specs.declared.asked.Kind.{Kind}
use Rattle.scp_prompt.specs.declared.asked.Coding.{Coding}
use Rattle.scp_convert.specs.Words.{bytes_of_word, word_of_bytes, IsDecodedAs, IsEncodedAs}

-- If a decoded text is encoded again, the new word says the bytes that the text was decoded from, whatever the coding of either.
abbrev pub EachComesBack : Type 0
EachComesBack = (kind : Kind) (from to : Coding) (word text again bytes : List ℕ) → bytes_of_word kind from word ≡ Some bytes
    → IsDecodedAs kind from word text → IsEncodedAs kind to text again → again ≡ word_of_bytes kind to bytes
