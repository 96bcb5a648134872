-- A slot's script that was made text is in digits again what it was.
use Rattle.std.proofs.Common.{◌≡◌, ℕ, List, [], ◌∷◌, drop, Option, Some, None, Ok, inl, inr, refl, sym, ◌∙◌, ap, subst}
use Rattle.std.specs.Prelude.{codes}
use Rattle.std.specs.List.{AllByRecursion, join_with_byte}
use Rattle.scp_text.specs.scp_quorum.specs.QuorumTree.{QuorumTree}
use Rattle.scp_text.specs.scp_wire.specs.declared.message.Message.{Message}
use Rattle.scp_text.specs.scp_wire.specs.declared.message.Message.TheVariants.{Envelope, GetSet, Set, NoSet, GetRecord, Record, Records}
use Rattle.scp_text.specs.Laws.{HasNo}
use Rattle.scp_text.specs.Values.{value_in}
use Rattle.scp_text.specs.Sets.{set_in}
use Rattle.scp_text.specs.Messages.{words_of}
use Rattle.scp_script_text.specs.Lines.{before, digits_of}
use Rattle.scp_script_text.specs.declared.script.Kind.TheVariants.{Slot}
use Rattle.scp_script_text.specs.declared.script.Form.TheVariants.{Hex, Text}
use Rattle.scp_script_text.specs.declared.slot.SlotLine.{SlotLine}
use Rattle.scp_script_text.specs.declared.slot.SlotLine.TheVariants.{Machine, Proposal, Hears, Other}
use Rattle.scp_script_text.specs.SlotLines.{but_last, last_of, kind_of, IsSetWordBy, IsValueWordBy, IsDigitsOf, IsMessageWord, IsEnvelopeWord, IsHexWords, IsHexLine}
use Rattle.scp_script_text.specs.SlotTexts.{IsTextLine}
use Rattle.scp_script_text.specs.Scripts.{lines_of, IsLineIn, AreLines, SlotScriptsComeBack}
use Rattle.scp_script_text.proofs.Marks.{parts_clear, joined_again, IsSome, some_line, parts_of_joined, clear_text}

-- ---- what is in digits has one form

one_set : (o : Option QuorumTree) (word a b : List ℕ) → IsSetWordBy o word a → IsSetWordBy o word b → a ≡ b
one_set (Some s) word a b x y = x.2 ∙ ap digits_of (x.1.spelt ∙ sym y.1.spelt) ∙ sym y.2
one_set None word a b x y = x.1 ∙ sym y.1

one_value : (o : Option (List ℕ)) (word a b : List ℕ) → IsValueWordBy o word a → IsValueWordBy o word b → a ≡ b
one_value (Some v) word a b x y = x ∙ sym y
one_value None word a b x y = x.1 ∙ sym y.1

one_digits : (m : Message) (a b : List ℕ) → IsDigitsOf m a → IsDigitsOf m b → a ≡ b
one_digits (Envelope e) a b x y = x.2 ∙ ap digits_of (x.1.spelt ∙ sym y.1.spelt) ∙ sym y.2
one_digits (GetSet h) a b x y = absurd x
one_digits (Set s) a b x y = absurd x
one_digits (NoSet h) a b x y = absurd x
one_digits (GetRecord s) a b x y = absurd x
one_digits (Record s v) a b x y = absurd x
one_digits (Records s v) a b x y = absurd x

one_message : (words : List (List ℕ)) (a b : List ℕ) → IsMessageWord words a → IsMessageWord words b → a ≡ b
one_message words a b x y =
    let same : x.0 ≡ y.0 = (let e : Ok x.0 ≡ Ok y.0 = sym x.1 ∙ y.1 in cc) in
    one_digits y.0 a b (subst (λ (m : Message). IsDigitsOf m a) same x.2) y.2

one_envelope : (words : List (List ℕ)) (a b : List ℕ) → IsEnvelopeWord words a → IsEnvelopeWord words b → a ≡ b
one_envelope [] a b x y = one_message [] a b x y
one_envelope (w ∷ []) a b x y = x.1 ∙ sym y.1
one_envelope (w ∷ v ∷ vs) a b x y = one_message (w ∷ v ∷ vs) a b x y

one_form : (kind : SlotLine) (front : List (List ℕ)) (last line a b : List ℕ) → IsHexWords kind front last line a → IsHexWords kind front last line b → a ≡ b
one_form Machine front last line a b x y = x.2 ∙ ap (before front) (one_set (set_in last) last x.0 y.0 x.1 y.1) ∙ sym y.2
one_form Proposal front last line a b x y = x.2 ∙ ap (before front) (one_value (value_in last) last x.0 y.0 x.1 y.1) ∙ sym y.2
one_form Hears front last line a b x y =
    let e : x.0 ≡ y.0 = one_envelope (drop 1 front) x.0 y.0 x.2 y.2 in
    let s : x.1 ≡ y.1 = one_set (set_in last) last x.1 y.1 x.3 y.3 in
    x.4 ∙ ap (λ w. before (codes "envelope" ∷ w ∷ []) x.1) e ∙ ap (before (codes "envelope" ∷ y.0 ∷ [])) s ∙ sym y.4
one_form Other front last line a b x y = x ∙ sym y

one_line : (line a b : List ℕ) → IsHexLine line a → IsHexLine line b → a ≡ b
one_line line a b x y = one_form (kind_of (but_last (words_of line))) (but_last (words_of line)) (last_of (words_of line)) line a b x y

-- ---- there and back

line_again : (line text again : List ℕ) → IsHexLine line line → IsTextLine line text → IsHexLine text again → again ≡ line
line_again line text again h t x =
    elim t [
      | inl p ↦ one_line text again line x p.1.1
      | inr p ↦
          let same : text ≡ line = p.3 in
          one_line line again line (subst (λ (l : List ℕ). IsHexLine l again) same x) h
    ]

line_clear : (line text : List ℕ) → HasNo 10 line → IsTextLine line text → HasNo 10 text
line_clear line text c t =
    elim t [
      | inl p ↦ clear_text text p.1.0
      | inr p ↦ let same : text ≡ line = p.3 in subst (HasNo 10) (sym same) c
    ]

lines_again : (lines texts again : List (List ℕ)) → AreLines IsHexLine lines lines → AreLines (IsLineIn Slot Text) lines texts → AreLines (IsLineIn Slot Hex) texts again → again ≡ lines
lines_again [] [] [] h t x = refl
lines_again [] [] (a ∷ more) h t x = absurd x
lines_again [] (u ∷ us) again h t x = absurd t
lines_again (l ∷ ls) [] again h t x = absurd t
lines_again (l ∷ ls) (u ∷ us) [] h t x = absurd x
lines_again (l ∷ ls) (u ∷ us) (a ∷ more) h t x =
    ap (λ y. y ∷ more) (line_again l u a h.0 t.0 x.0) ∙ ap (λ ys. l ∷ ys) (lines_again ls us more h.1 t.1 x.1)

lines_clear : (lines texts : List (List ℕ)) → AllByRecursion (HasNo 10) lines → AreLines (IsLineIn Slot Text) lines texts → AllByRecursion (HasNo 10) texts
lines_clear [] [] c t = tt
lines_clear [] (u ∷ us) c t = absurd t
lines_clear (l ∷ ls) [] c t = absurd t
lines_clear (l ∷ ls) (u ∷ us) c t = (line_clear l u c.0 t.0, lines_clear ls us c.1 t.1)

some_texts : (lines texts : List (List ℕ)) → IsSome lines → AreLines (IsLineIn Slot Text) lines texts → IsSome texts
some_texts [] texts s t = absurd s
some_texts (l ∷ ls) [] s t = absurd t
some_texts (l ∷ ls) (u ∷ us) s t = tt

pub come_back : SlotScriptsComeBack
come_back script text again h t x =
    let lines : lines_of text ≡ t.0 =
    ap lines_of t.2 ∙ parts_of_joined t.0 (some_texts (lines_of script) t.0 (some_line script) t.1) (lines_clear (lines_of script) t.0 (parts_clear 10 script) t.1) in
    let hexed : AreLines (IsLineIn Slot Hex) t.0 x.0 = subst (λ (ls : List (List ℕ)). AreLines (IsLineIn Slot Hex) ls x.0) lines x.1 in
    x.2 ∙ ap (join_with_byte 10) (lines_again (lines_of script) t.0 x.0 h t.1 hexed) ∙ joined_again 10 script
