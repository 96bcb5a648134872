-- Single messages, as words of hex digits or of Base64, and as text (this project's profile).
use Rattle.std.specs.Prelude.{◌≡◌, ℕ, List, Option, Some, None, Ok, Err}
use Rattle.std.specs.Result.{result_ok}
use Rattle.base64.specs.Engines.{standard}
use Rattle.base64.specs.GeneralPurpose.{encode_of, decode_of as base64_of}
use Rattle.hex.specs.Hex.{encode_lower, decode_of}
use Rattle.scp_text.specs.scp_types.specs.declared.fault.Fault.{Fault}
use Rattle.scp_text.specs.scp_types.specs.declared.fault.Fault.TheVariants as faults
use Rattle.scp_text.specs.scp_wire.specs.declared.message.Message.{Message}
use Rattle.scp_text.specs.scp_wire.specs.Message.{message_value, message_reading, SpellsMessage}
use Rattle.scp_text.specs.Messages.{message_in, message_text, words_of}
use Rattle.scp_script_text.specs.declared.bytes.Spelling.{Spelling}
use Rattle.scp_script_text.specs.declared.bytes.Spelling.TheVariants.{Hex, Base64}
use Rattle.scp_script_text.specs.declared.decoding.DecodeError.{DecodeError}
use Rattle.scp_script_text.specs.declared.decoding.DecodeError.TheVariants.{NoMemory, NoBytes, TooLong, Malformed}

-- the word that encodes bytes: their lower-case hex digits, or their Base64 with its padding (RFC 4648, section 4)
abbrev pub spelled : Spelling → List ℕ → List ℕ
spelled Hex bytes = encode_lower bytes
spelled Base64 bytes = encode_of standard bytes

-- the bytes that a word encodes, if it encodes any
abbrev pub bytes_in : Spelling → List ℕ → Option (List ℕ)
bytes_in Hex word = result_ok (decode_of word)
bytes_in Base64 word = result_ok (base64_of standard word)

-- the bytes encode a message, and the text is that message's text and says exactly this message
pub record IsTextOf (bytes : List ℕ) (text : List ℕ) : Type 0 where
  pub message : Message
  pub spells : SpellsMessage bytes (message_value message)
  pub is : text ≡ message_text message
  pub says : message_in (words_of text) ≡ Ok message

-- the word encodes the bytes of a message with this text
pub record IsDecoded (spelling : Spelling) (word : List ℕ) (text : List ℕ) : Type 0 where
  pub bytes : List ℕ
  pub spelt : bytes_in spelling word ≡ Some bytes
  pub shown : IsTextOf bytes text

-- the word encodes bytes, and this is their first fault
abbrev pub IsFaulty : Spelling → List ℕ → Fault → Type 0
IsFaulty spelling word fault = (bytes : List ℕ) × (bytes_in spelling word ≡ Some bytes) × (message_reading bytes ≡ Err fault)

-- why a word is no message: out of memory, it encodes no bytes, or the first fault of its bytes
abbrev pub IsUndecoded : Spelling → List ℕ → DecodeError → Type 0
IsUndecoded spelling word NoMemory = Unit {0}
IsUndecoded spelling word NoBytes = bytes_in spelling word ≡ None
IsUndecoded spelling word TooLong = IsFaulty spelling word faults.TooLong
IsUndecoded spelling word (Malformed place) = IsFaulty spelling word (faults.Malformed place)

-- the text says a message, and the word encodes that message's bytes
pub record IsEncoded (spelling : Spelling) (text : List ℕ) (word : List ℕ) : Type 0 where
  pub message : Message
  pub says : message_in (words_of text) ≡ Ok message
  pub bytes : List ℕ
  pub spells : SpellsMessage bytes (message_value message)
  pub is : word ≡ spelled spelling bytes
