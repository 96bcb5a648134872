-- Texts that have no bytes.
use Rattle.std.proofs.Common.{◌≡◌, inl, inr, ℕ, List, [], Ok, Err, sym, ◌∙◌, ap, length}
use Rattle.std.specs.Prelude.{Result}
use Rattle.scp_script_text.specs.scp_envelope.specs.declared.statement.Envelope.{Envelope}
use Rattle.scp_script_text.specs.scp_device.specs.declared.bad.BadWord.{BadWord}
use Rattle.scp_script_text.specs.scp_device.specs.declared.bad.Expected.TheVariants.{AMessage, WithinLimits}
use Rattle.scp_script_text.specs.scp_device.specs.declared.bad.WordFault.{WordFault}
use Rattle.scp_script_text.specs.scp_device.specs.declared.bad.WordFault.TheVariants as faults
use Rattle.scp_script_text.specs.scp_wire.specs.declared.message.Message.{Message}
use Rattle.scp_script_text.specs.scp_text.specs.Messages.{message_in, words_of, IsRefusedMessage, Answers}
use Rattle.scp_prompt.specs.declared.asked.Kind.TheVariants as kinds
use Rattle.scp_convert.specs.declared.refusal.Refusal.TheVariants.{NoEnvelope, Signed}
use Rattle.scp_convert.specs.declared.encoding.Unsaid.{Unsaid}
use Rattle.scp_convert.specs.declared.encoding.Unsaid.TheVariants.{Refused, NoMemory}
use Rattle.scp_convert.specs.Kinds.{sent, unsigned}
use Rattle.scp_convert.specs.Refusals.{IsNoMessage, IsNoEnvelope, IsSigned, IsUnsaid, IsNotEncodedAs}
use Rattle.scp_convert.specs.inside.Unsaid.{unsaid_by, IsUnsaidBy}

-- a text whose first word begins no message says no envelope
pub no_message : (text : List ℕ) (bad : BadWord) → bad.expected ≡ AMessage → IsRefusedMessage (words_of text) (faults.Bad bad) → IsNoEnvelope text NoEnvelope
no_message text bad is (inl refused) = λ e says. let o : Ok (sent e) ≡ Err bad = sym says ∙ refused in absurd cc
no_message text bad is (inr over) = λ e says. let o : AMessage ≡ WithinLimits = sym is ∙ ap (λ (b : BadWord). b.expected) over.3 in absurd cc

-- another message says no envelope
pub another_message : (text : List ℕ) (m : Message) → message_in (words_of text) ≡ Ok m → ((e : Envelope) → ¬ (m ≡ sent e)) → IsNoEnvelope text NoEnvelope
another_message text m is other = λ e says. other e (let o : Ok m ≡ Ok (sent e) = sym is ∙ says in cc)

-- a bad word of a message, of an envelope, and of a text that is one word
pub message_word : (text : List ℕ) (fault : WordFault) (unsaid : Unsaid) → unsaid ≡ unsaid_by fault → IsRefusedMessage (words_of text) fault → IsUnsaidBy (IsNoMessage text) unsaid
message_word text (faults.Bad bad) unsaid e h = rw e h
message_word text faults.NoMemory unsaid e h = rw e tt

pub envelope_word : (text : List ℕ) (fault : WordFault) (unsaid : Unsaid) → unsaid ≡ unsaid_by fault → IsRefusedMessage (words_of text) fault → IsUnsaidBy (IsNoEnvelope text) unsaid
envelope_word text (faults.Bad bad) unsaid e h = rw e h
envelope_word text faults.NoMemory unsaid e h = rw e tt

pub one_word : {A : Type 0} (reading : Result A BadWord) (fault : WordFault) (unsaid : Unsaid) → unsaid ≡ unsaid_by fault → Answers (Err fault) reading → IsUnsaidBy (IsUnsaid reading) unsaid
one_word reading (faults.Bad bad) unsaid e h = rw e h
one_word reading faults.NoMemory unsaid e h = rw e tt

-- what says no envelope says no statement, and neither does what is signed
pub no_statement : (text : List ℕ) (unsaid : Unsaid) → IsUnsaidBy (IsNoEnvelope text) unsaid → IsUnsaidBy (IsNotEncodedAs kinds.Statement text) unsaid
no_statement text (Refused refusal) h = inl h
no_statement text NoMemory h = tt

pub no_signed_statement : (text : List ℕ) (unsaid : Unsaid) → IsUnsaidBy (IsSigned text) unsaid → IsUnsaidBy (IsNotEncodedAs kinds.Statement text) unsaid
no_signed_statement text (Refused refusal) h = inr h
no_signed_statement text NoMemory h = tt

-- an envelope without a signature is its statement alone
pub without_signature : (text : List ℕ) (e : Envelope) → message_in (words_of text) ≡ Ok (sent e) → e.signature ≡ [] → message_in (words_of text) ≡ Ok (sent (unsigned e.statement))
without_signature text e says none = says ∙ ap (λ (s : List ℕ). Ok (sent (record { statement = e.statement; signature = s }))) none

-- a text that says an envelope with a signature
pub is_signed : (text : List ℕ) (e : Envelope) (count : ℕ) → message_in (words_of text) ≡ Ok (sent e) → ¬ (e.signature ≡ []) → count ≡ length (words_of text) → IsUnsaidBy (IsSigned text) (Refused (Signed count))
is_signed text e count says some is = (e, says, some, is)
