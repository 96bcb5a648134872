-- Lines that aren't converted, and what was expected in them (this project's profile).
use Rattle.std.specs.Prelude.{◌≡◌, ◌⊎◌, ℕ, List, [], ◌++◌, length, Option, Some, None, Result, Ok, Err, codes}
use Rattle.scp_script_text.specs.scp_types.specs.declared.fault.Fault.{Fault}
use Rattle.scp_script_text.specs.scp_types.specs.declared.fault.Fault.TheVariants as faults
use Rattle.scp_script_text.specs.scp_envelope.specs.declared.statement.Envelope.{Envelope}
use Rattle.scp_script_text.specs.scp_device.specs.declared.bad.BadWord.{BadWord}
use Rattle.scp_script_text.specs.scp_device.specs.declared.bad.WordFault.TheVariants.{Bad}
use Rattle.scp_script_text.specs.scp_device.specs.declared.bad.Expected.TheVariants.{ASet, AValue}
use Rattle.scp_script_text.specs.scp_device.specs.Expected.{words_of as words_expected, number_of, number_text}
use Rattle.scp_script_text.specs.scp_text.specs.Sets.{set_in}
use Rattle.scp_script_text.specs.scp_text.specs.Values.{value_in}
use Rattle.scp_script_text.specs.scp_text.specs.Messages.{message_in, words_of, or_refused, IsRefusedMessage}
use Rattle.scp_prompt.specs.declared.asked.Kind.{Kind}
use Rattle.scp_prompt.specs.declared.asked.Kind.TheVariants as kinds
use Rattle.scp_prompt.specs.declared.asked.Coding.{Coding}
use Rattle.scp_prompt.specs.declared.asked.Coding.TheVariants as codings
use Rattle.scp_prompt.specs.declared.asked.Way.{Way}
use Rattle.scp_prompt.specs.declared.asked.Way.TheVariants as ways
use Rattle.scp_prompt.specs.declared.asked.Conversion.{Conversion}
use Rattle.scp_prompt.specs.Places.{IsStanding, place_line}
use Rattle.scp_convert.specs.declared.refusal.Refusal.{Refusal}
use Rattle.scp_convert.specs.declared.refusal.Refusal.TheVariants.{Word, NoBytes, TooLong, Malformed, NoEnvelope, Signed}
use Rattle.scp_convert.specs.Kinds.{sent, IsFaulty}
use Rattle.scp_convert.specs.Words.{bytes_of_word}

-- ---- words of bytes

-- the word says bytes, and this is their first fault
abbrev pub IsOfFault : Kind → Coding → List ℕ → Fault → Type 0
IsOfFault kind coding word fault = (bytes : List ℕ) × (bytes_of_word kind coding word ≡ Some bytes) × IsFaulty kind bytes fault

-- why a word isn't decoded: it says no bytes, or the first fault of its bytes
abbrev pub IsNotDecodedAs : Kind → Coding → List ℕ → Refusal → Type 0
IsNotDecodedAs kind coding word NoBytes = bytes_of_word kind coding word ≡ None
IsNotDecodedAs kind coding word TooLong = IsOfFault kind coding word faults.TooLong
IsNotDecodedAs kind coding word (Malformed place) = IsOfFault kind coding word (faults.Malformed place)
IsNotDecodedAs kind coding word refusal = ⊥

-- ---- texts

-- the first bad word of a text that says no message
abbrev pub IsNoMessage : List ℕ → Refusal → Type 0
IsNoMessage text (Word bad) = IsRefusedMessage (words_of text) (Bad bad)
IsNoMessage text refusal = ⊥

-- the first bad word of a text that says no envelope, or that it says something else
abbrev pub IsNoEnvelope : List ℕ → Refusal → Type 0
IsNoEnvelope text (Word bad) = IsRefusedMessage (words_of text) (Bad bad)
IsNoEnvelope text NoEnvelope = (e : Envelope) → ¬ (message_in (words_of text) ≡ Ok (sent e))
IsNoEnvelope text refusal = ⊥

-- the text says an envelope whose signature, in the last word, isn't empty
abbrev pub IsSigned : List ℕ → Refusal → Type 0
IsSigned text (Signed word) = (e : Envelope) × (message_in (words_of text) ≡ Ok (sent e)) × (¬ (e.signature ≡ [])) × (word ≡ length (words_of text))
IsSigned text refusal = ⊥

-- the text is refused as one word
abbrev pub IsUnsaid : {A : Type 0} → Result A BadWord → Refusal → Type 0
IsUnsaid reading (Word bad) = reading ≡ Err bad
IsUnsaid reading refusal = ⊥

-- why a text isn't encoded
abbrev pub IsNotEncodedAs : Kind → List ℕ → Refusal → Type 0
IsNotEncodedAs kinds.Message text refusal = IsNoMessage text refusal
IsNotEncodedAs kinds.Envelope text refusal = IsNoEnvelope text refusal
IsNotEncodedAs kinds.Statement text refusal = IsNoEnvelope text refusal ⊎ IsSigned text refusal
IsNotEncodedAs kinds.Set text refusal = IsUnsaid (or_refused (set_in text) 1 ASet) refusal
IsNotEncodedAs kinds.Value text refusal = IsUnsaid (or_refused (value_in text) 1 AValue) refusal

-- why a line isn't converted
abbrev pub IsNotMade : Way → Kind → Coding → List ℕ → Refusal → Type 0
IsNotMade ways.Decode kind coding line refusal = IsNotDecodedAs kind coding line refusal
IsNotMade ways.Encode kind coding line refusal = IsNotEncodedAs kind line refusal

-- the same, by the conversion
abbrev pub IsNotConverted : Conversion → List ℕ → Refusal → Type 0
IsNotConverted conversion line refusal = IsNotMade conversion.way conversion.kind conversion.coding line refusal

-- ---- what is reported

-- the word that is refused, from 1 on
abbrev pub refused_word : Refusal → ℕ
refused_word (Word bad) = bad.word
refused_word (Signed word) = word
refused_word refusal = 1

-- one of this kind, in words
abbrev pub one_of : Kind → List ℕ
one_of kinds.Message = codes "a message"
one_of kinds.Envelope = codes "an envelope"
one_of kinds.Statement = codes "a statement"
one_of kinds.Set = codes "a quorum set"
one_of kinds.Value = codes "a value"

-- how bytes are written, in words
abbrev pub coding_words : Coding → List ℕ
coding_words codings.Hex = codes ", in hexadecimal digits"
coding_words codings.Base64 = codes ", in base64"

-- what was expected at the word that is refused, up to the number that some end with
abbrev pub expected_words : Kind → Coding → Refusal → List ℕ
expected_words kind coding (Word bad) = words_expected bad.expected
expected_words kind coding NoBytes = codes "the bytes of " ++ one_of kind ++ coding_words coding
expected_words kind coding TooLong = one_of kind ++ codes " within its limits"
expected_words kind coding (Malformed place) = one_of kind ++ codes "; it is malformed at its byte "
expected_words kind coding NoEnvelope = one_of kind ++ codes ": nominate, prepare, confirm or externalize"
expected_words kind coding (Signed word) = codes "the end of the line: a statement has no signature"

-- the number that it ends with, if it does
abbrev pub expected_number : Refusal → Option ℕ
expected_number (Word bad) = number_of bad.expected
expected_number (Malformed place) = Some place
expected_number refusal = None

-- the line that reports a refused line of the input with this name and these bytes
abbrev pub IsRefusedLine : Kind → Coding → List ℕ → List ℕ → ℕ → Refusal → List ℕ → Type 0
IsRefusedLine kind coding name input line refusal told =
    (stands : List ℕ) × IsStanding input line (refused_word refusal) stands
    × (told ≡ place_line name line (refused_word refusal) stands (expected_words kind coding refusal ++ number_text (expected_number refusal)))
