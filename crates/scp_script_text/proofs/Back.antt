-- What is decoded is encoded as what it was.
use Rattle.std.proofs.Common.{◌≡◌, ℕ, List, Some, Ok, Err, inl, inr, ◌≤◌, length, sym, ◌∙◌, ap, subst}
use Rattle.scp_text.specs.scp_xdr.specs.Kind.{spelling}
use Rattle.scp_text.specs.scp_wire.specs.declared.message.Message.{Message}
use Rattle.scp_text.specs.scp_wire.specs.Message.{message_kind, message_value, SpellsMessage, FitsMessage}
use Rattle.scp_script_text.specs.Decoding.{spelled}
use Rattle.scp_script_text.specs.Laws.{ComesBack, IsNeverRefused}

-- a message has one spelling
same_bytes : (x y : List ℕ) (m n : Message) → m ≡ n → SpellsMessage x (message_value m) → SpellsMessage y (message_value n) → y ≡ x
same_bytes x y m n e s t = t.spells.spelt ∙ ap (λ k. spelling message_kind (message_value k)) (sym e) ∙ sym s.spells.spelt

pub comes_back : ComesBack
comes_back from to word text again bytes b d e =
    let same : d.bytes ≡ bytes = (let o : Some d.bytes ≡ Some bytes = sym d.spelt ∙ b in cc) in
    let one : d.shown.message ≡ e.message = (let o : Ok d.shown.message ≡ Ok e.message = sym d.shown.says ∙ e.says in cc) in
    e.is ∙ ap (spelled to) (same_bytes d.bytes e.bytes d.shown.message e.message one d.shown.spells e.spells ∙ same)

message_fits : (bytes : List ℕ) (m : Message) → SpellsMessage bytes (message_value m) → FitsMessage (message_value m)
message_fits bytes m s = record { fits = s.spells.fits; within = subst (λ (b : List ℕ). length b ≤ 65536) s.spells.spelt s.within }

pub never_refused : IsNeverRefused
never_refused from word text refusal d h =
    elim h [
      | inl e ↦ let no : Ok d.shown.message ≡ Err refusal = sym d.shown.says ∙ e in absurd cc
      | inr p ↦
          let same : d.shown.message ≡ p.0 = (let o : Ok d.shown.message ≡ Ok p.0 = sym d.shown.says ∙ p.1 in cc) in
          p.2 (subst (λ (m : Message). FitsMessage (message_value m)) same (message_fits d.bytes d.shown.message d.shown.spells))
    ]
