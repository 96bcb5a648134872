-- A text that was decoded is encoded as the same bytes again (this project's profile).
use Rattle.std.specs.Prelude.{◌≡◌, ℕ, List, Some}
use Rattle.scp_text.specs.Messages.{words_of, IsRefusedMessage}
use Rattle.scp_text.specs.scp_device.specs.declared.bad.BadWord.{BadWord}
use Rattle.scp_text.specs.scp_device.specs.declared.bad.WordFault.TheVariants.{Bad}
use Rattle.scp_script_text.specs.declared.bytes.Spelling.{Spelling}
use Rattle.scp_script_text.specs.Decoding.{spelled, bytes_in, IsDecoded, IsEncoded}

-- If a decoded text is encoded again, the new word encodes the bytes that the text was decoded from. The two words may have different
-- spellings.
abbrev pub ComesBack : Type 0
ComesBack = (from to : Spelling) (word text again bytes : List ℕ) → bytes_in from word ≡ Some bytes
    → IsDecoded from word text → IsEncoded to text again → again ≡ spelled to bytes

-- No word of a decoded text is refused when the text is read as a message.
abbrev pub IsNeverRefused : Type 0
IsNeverRefused = (from : Spelling) (word text : List ℕ) (refusal : BadWord) → IsDecoded from word text
    → ¬ (IsRefusedMessage (words_of text) (Bad refusal))
