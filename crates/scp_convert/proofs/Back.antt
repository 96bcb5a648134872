-- What was decoded is encoded as what it was.
use Rattle.std.proofs.Common.{◌≡◌, ℕ, List, Option, Some, None, Result, Ok, sym, ◌∙◌, ap}
use Rattle.scp_script_text.specs.scp_xdr.specs.Kind.{spelling}
use Rattle.scp_script_text.specs.scp_quorum.specs.QuorumTree.{QuorumTree}
use Rattle.scp_script_text.specs.scp_quorum.specs.QuorumKind.{set_kind, set_value}
use Rattle.scp_script_text.specs.scp_envelope.specs.declared.statement.Statement.{Statement}
use Rattle.scp_script_text.specs.scp_envelope.specs.declared.statement.Envelope.{Envelope}
use Rattle.scp_script_text.specs.scp_envelope.specs.Kinds.{statement_kind, statement_value, envelope_kind, envelope_value}
use Rattle.scp_script_text.specs.scp_wire.specs.declared.message.Message.{Message}
use Rattle.scp_script_text.specs.scp_wire.specs.declared.message.Message.TheVariants.{Envelope as Sending}
use Rattle.scp_script_text.specs.scp_wire.specs.Message.{message_kind, message_value}
use Rattle.scp_script_text.specs.scp_device.specs.declared.bad.BadWord.{BadWord}
use Rattle.scp_script_text.specs.scp_text.specs.Messages.{message_in, words_of}
use Rattle.scp_prompt.specs.declared.asked.Kind.{Kind}
use Rattle.scp_prompt.specs.declared.asked.Kind.TheVariants as kinds
use Rattle.scp_convert.specs.Kinds.{sent, unsigned, IsShown, Says}
use Rattle.scp_convert.specs.Words.{word_of_bytes}
use Rattle.scp_convert.specs.Laws.{EachComesBack}

-- the envelope of a message that was read, if it has one
abbrev carried : Result Message BadWord → Option Envelope
carried (Ok (Sending boxed)) = Some boxed.value
carried other = None

-- a message has one envelope
one_sent : (reading : Result Message BadWord) (a b : Envelope) → reading ≡ Ok (sent a) → reading ≡ Ok (sent b) → a ≡ b
one_sent reading a b is says = let o : Some a ≡ Some b = sym (ap carried is) ∙ ap carried says in cc

-- the text of some bytes says no others
same_bytes : (kind : Kind) (text x y : List ℕ) → IsShown kind x text → Says kind text y → y ≡ x
same_bytes kinds.Message text x y h s =
    let one : h.0 ≡ s.0 = (let o : Ok h.0 ≡ Ok s.0 = sym h.2.says ∙ s.1 in cc) in
    s.2.spells.spelt ∙ ap (λ (m : Message). spelling message_kind (message_value m)) (sym one) ∙ sym h.1.spells.spelt
same_bytes kinds.Envelope text x y h s =
    let one : h.0 ≡ s.0 = one_sent (message_in (words_of text)) h.0 s.0 h.2.says s.1 in
    s.2.spelt ∙ ap (λ (e : Envelope). spelling envelope_kind (envelope_value e)) (sym one) ∙ sym h.1.spelt
same_bytes kinds.Statement text x y h s =
    let one : h.0 ≡ s.0 = ap (λ (e : Envelope). e.statement) (one_sent (message_in (words_of text)) (unsigned h.0) (unsigned s.0) h.2.says s.1) in
    s.2.spelt ∙ ap (λ (t : Statement). spelling statement_kind (statement_value t)) (sym one) ∙ sym h.1.spelt
same_bytes kinds.Set text x y h s =
    let one : h.0 ≡ s.0 = (let o : Some h.0 ≡ Some s.0 = sym h.3 ∙ s.1 in cc) in
    s.2.spelt ∙ ap (λ (t : QuorumTree). spelling set_kind (set_value t)) (sym one) ∙ sym h.1.spelt
same_bytes kinds.Value text x y h s = let o : Some y ≡ Some x = sym s ∙ h.1 in cc

pub comes_back : EachComesBack
comes_back kind from to word text again bytes b d e =
    let same : d.0 ≡ bytes = (let o : Some d.0 ≡ Some bytes = sym d.1 ∙ b in cc) in
    e.2 ∙ ap (λ (l : List ℕ). word_of_bytes kind to l) (same_bytes kind text d.0 e.0 d.2 e.1 ∙ same)
