-- A line that was made text is in digits again what it was.
use Rattle.std.proofs.Common.{◌≡◌, ℕ, zero, suc, ◌+◌, ◌<◌, ◌≤◌, Bool, true, false, List, [], ◌∷◌, ◌++◌, length, take, drop, Option, Some, None, Result, Ok, Err, inl, inr, refl, sym, ◌∙◌, ap, subst, arith}
use Rattle.std.specs.Prelude.{codes, if◌then◌else◌, nat_lt}
use Rattle.std.specs.List.{AllByRecursion, join_with_byte}
use Rattle.std.specs.Result.{result_ok}
use Rattle.std.proofs.lemmas.Bool.Decides.{nat_tests}
use Rattle.hex.specs.Hex.{IsBytes, decode_of}
use Rattle.hex.specs.declared.error.FromHexError.{FromHexError}
use Rattle.hex.proofs.HexLemmas.{decode_of-ok}
use Rattle.scp_text.specs.scp_types.specs.declared.fault.Fault.{Fault}
use Rattle.scp_text.specs.scp_types.specs.declared.fault.Fault.TheVariants.{TooLong}
use Rattle.scp_text.specs.scp_xdr.specs.Kind.{Kind, Values, Fits, Spells, spelling}
use Rattle.scp_text.specs.scp_xdr.specs.Reading.{reading_whole}
use Rattle.scp_text.specs.scp_quorum.specs.QuorumTree.{QuorumTree}
use Rattle.scp_text.specs.scp_quorum.specs.QuorumKind.{set_kind, set_value}
use Rattle.scp_text.specs.scp_wire.specs.declared.message.Message.{Message as LinkMessage}
use Rattle.scp_text.specs.scp_wire.specs.Message.{message_kind, message_value, message_reading, SpellsMessage, FitsMessage}
use Rattle.scp_text.specs.Pieces.{same}
use Rattle.scp_text.specs.Values.{value_text, value_in}
use Rattle.scp_text.specs.Sets.{set_text, set_in}
use Rattle.scp_text.specs.Messages.{◌>>=◌, or_refused, message_in, message_text, words_of, Answers, IsRefusedMessage}
use Rattle.scp_text.specs.Laws.{HasNo, MessagesComeBack, ValuesComeBack, SetsComeBack}
use Rattle.scp_text.specs.scp_device.specs.declared.bad.BadWord.{BadWord}
use Rattle.scp_text.specs.scp_device.specs.declared.bad.WordFault.{WordFault}
use Rattle.scp_text.specs.scp_device.specs.declared.bad.WordFault.TheVariants.{NoMemory, Bad}
use Rattle.scp_text.specs.scp_device.specs.declared.bad.Expected.{Expected}
use Rattle.scp_text.specs.scp_device.specs.declared.bad.Expected.TheVariants.{AValue, ASet, Digits}
use Rattle.scp_script_text.specs.declared.nodes.Carried.{Carried}
use Rattle.scp_script_text.specs.declared.nodes.Carried.TheVariants.{Message, Value, Set}
use Rattle.scp_script_text.specs.declared.script.Form.TheVariants.{Hex, Text}
use Rattle.scp_script_text.specs.Lines.{carried_by, carried_in, words_before, before, ends, only_word, digits_of, some_bytes, bytes_in, digits_at, Say, AreRefused, IsHexOf, IsNoHex, IsShown, IsUnread, IsTextLine, IsTextOf}
use Rattle.scp_script_text.specs.Scripts.{IsLineBy, IsLineOf, IsNoLineBy, IsNoLineOf, IsReadableBy, IsReadableLine}
use Rattle.scp_script_text.proofs.Marks.{parts_at, one_part, parts_before, joined_again, joined_before, parts_clear, parts_keep, take_clear, before_clear}

-- what the lower crates promise
pub record Laws : Type 0 where
  pub messages : MessagesComeBack
  pub values : ValuesComeBack
  pub sets : SetsComeBack
  pub read_back : (k : Kind) (v : Values k) → Fits k v → reading_whole k (spelling k v) ≡ Ok v

-- ---- digits are of bytes

ok_some : (r : Result (List ℕ) FromHexError) (bytes : List ℕ) → result_ok r ≡ Some bytes → r ≡ Ok bytes
ok_some (Ok b) bytes h = let e : b ≡ bytes = cc in ap Ok e
ok_some (Err f) bytes h = absurd cc

digits_bytes : (word bytes : List ℕ) → result_ok (decode_of word) ≡ Some bytes → IsBytes bytes
digits_bytes word bytes h = (decode_of-ok word bytes (ok_some (decode_of word) bytes h)).3

some_are_bytes : (word bytes : List ℕ) → some_bytes word ≡ Some bytes → IsBytes bytes
some_are_bytes [] bytes h = absurd cc
some_are_bytes (d ∷ ds) bytes h = digits_bytes (d ∷ ds) bytes h

no_bytes : IsBytes []
no_bytes i = omega arith

word_bytes : (word bytes : List ℕ) → bytes_in word ≡ Some bytes → IsBytes bytes
word_bytes word bytes h = by (same word (codes "-")) h
  where
    by : (b : Bool) → (if b then Some [] else some_bytes word) ≡ Some bytes → IsBytes bytes
    by true h = let e : [] ≡ bytes = cc in subst IsBytes e no_bytes
    by false h = some_are_bytes word bytes h

-- what one word says
one_says : {A : Type 0} (says : List ℕ → Option A) (expected : Expected) (word : List ℕ) (x : A) → only_word says expected (word ∷ []) ≡ Ok x → says word ≡ Some x
one_says {A = A} says expected word x h = by (says word) h
  where
    by : (o : Option A) → (or_refused o 1 expected >>= (λ y. ends [] >>= (λ done. Ok y))) ≡ Ok x → o ≡ Some x
    by (Some y) h = let e : y ≡ x = cc in ap Some e
    by None h = absurd cc

says_one : {A : Type 0} (says : List ℕ → Option A) (expected : Expected) (word : List ℕ) (x : A) → says word ≡ Some x → only_word says expected (word ∷ []) ≡ Ok x
says_one says expected word x h = rw h refl

pub are_bytes : (words : List (List ℕ)) (digits bytes : List ℕ) → words ≡ digits ∷ [] → digits_at words ≡ Ok bytes → IsBytes bytes
are_bytes words digits bytes e h = word_bytes digits bytes (one_says bytes_in Digits digits bytes (sym (ap digits_at e) ∙ h))

-- ---- what is shown is read, and says just that

read_message : (laws : Laws) (bytes : List ℕ) (m : LinkMessage) (fault : Fault) → SpellsMessage bytes (message_value m) → message_reading bytes ≡ Err fault → ⊥
read_message laws bytes m fault s h =
    let short : nat_lt 65536 (length bytes) ≡ false = grind (arith, nat_tests, s.within) in
    let back : reading_whole message_kind bytes ≡ Ok (message_value m) = ap (reading_whole message_kind) s.spells.spelt ∙ laws.read_back message_kind (message_value m) s.spells.fits in
    let whole : message_reading bytes ≡ reading_whole message_kind bytes = rw short refl in
    let same : Ok (message_value m) ≡ Err fault = sym back ∙ sym whole ∙ h in
    absurd cc

pub shown_read : (laws : Laws) (c : Carried) (bytes text : List ℕ) (fault : Fault) → IsShown c bytes text → IsUnread c bytes fault → ⊥
shown_read laws Message bytes text fault s u = read_message laws bytes s.0 fault s.1 u
shown_read laws Value bytes text fault s u = omega (arith, s.0, u.0)
shown_read laws Set bytes text fault s u =
    let back : reading_whole set_kind bytes ≡ Ok (set_value s.0) = ap (reading_whole set_kind) s.1.spelt ∙ laws.read_back set_kind (set_value s.0) s.1.fits in
    let same : Ok (set_value s.0) ≡ Err fault = sym back ∙ u in
    absurd cc

one_word : (text : List ℕ) → HasNo 32 text → words_of text ≡ text ∷ []
one_word text h = one_part 32 text h

message_says : (laws : Laws) (bytes text : List ℕ) → IsBytes bytes → (s : IsShown Message bytes text) → message_in (words_of text) ≡ Ok s.0
message_says laws bytes text are s = ap (λ t. message_in (words_of t)) s.2 ∙ (laws.messages bytes s.0 are s.1).0

value_says : (laws : Laws) (bytes text : List ℕ) → IsBytes bytes → IsShown Value bytes text → only_word value_in AValue (words_of text) ≡ Ok bytes
value_says laws bytes text are s =
    let law = laws.values bytes are s.0 in
    ap (λ t. only_word value_in AValue (words_of t)) s.1 ∙ ap (only_word value_in AValue) (one_word (value_text bytes) law.1) ∙ says_one value_in AValue (value_text bytes) bytes law.0

set_says : (laws : Laws) (bytes text : List ℕ) → IsBytes bytes → (s : IsShown Set bytes text) → only_word set_in ASet (words_of text) ≡ Ok s.0
set_says laws bytes text are s =
    let law = laws.sets bytes s.0 are s.1 in
    ap (λ t. only_word set_in ASet (words_of t)) s.2 ∙ ap (only_word set_in ASet) (one_word (set_text s.0) law.1) ∙ says_one set_in ASet (set_text s.0) s.0 law.0

pub shown_clear : (laws : Laws) (c : Carried) (bytes text : List ℕ) → IsBytes bytes → IsShown c bytes text → HasNo 10 text
shown_clear laws Message bytes text are s = subst (HasNo 10) (sym s.2) (laws.messages bytes s.0 are s.1).1
shown_clear laws Value bytes text are s = subst (HasNo 10) (sym s.1) (laws.values bytes are s.0).2
shown_clear laws Set bytes text are s = subst (HasNo 10) (sym s.2) (laws.sets bytes s.0 are s.1).2

-- the one spelling
pub said_bytes : (laws : Laws) (c : Carried) (bytes text again : List ℕ) → IsBytes bytes → IsShown c bytes text → Say c (words_of text) again → again ≡ bytes
said_bytes laws Message bytes text again are s y =
    let same : s.0 ≡ y.0 = (let e : Ok s.0 ≡ Ok y.0 = sym (message_says laws bytes text are s) ∙ y.1 in cc) in
    y.2.spells.spelt ∙ ap (λ m. spelling message_kind (message_value m)) (sym same) ∙ sym s.1.spells.spelt
said_bytes laws Value bytes text again are s y = let e : Ok bytes ≡ Ok again = sym (value_says laws bytes text are s) ∙ y in cc
said_bytes laws Set bytes text again are s y =
    let same : s.0 ≡ y.0 = (let e : Ok s.0 ≡ Ok y.0 = sym (set_says laws bytes text are s) ∙ y.1 in cc) in
    y.2.spelt ∙ ap (λ q. spelling set_kind (set_value q)) (sym same) ∙ sym s.1.spelt

message_fits : (bytes : List ℕ) (m : LinkMessage) → SpellsMessage bytes (message_value m) → FitsMessage (message_value m)
message_fits bytes m s = record { fits = s.spells.fits; within = subst (λ (b : List ℕ). length b ≤ 65536) s.spells.spelt s.within }

pub said_not_refused : (laws : Laws) (c : Carried) (bytes text : List ℕ) (r : BadWord) → IsBytes bytes → IsShown c bytes text → AreRefused c (words_of text) (Bad r) → ⊥
said_not_refused laws Message bytes text r are s h =
    let says : message_in (words_of text) ≡ Ok s.0 = message_says laws bytes text are s in
    elim h [
      | inl e ↦ let no : Ok s.0 ≡ Err r = sym says ∙ e in absurd cc
      | inr p ↦
          let same : s.0 ≡ p.0 = (let e : Ok s.0 ≡ Ok p.0 = sym says ∙ p.1 in cc) in
          p.2 (subst (λ (m : LinkMessage). FitsMessage (message_value m)) same (message_fits bytes s.0 s.1))
    ]
said_not_refused laws Value bytes text r are s h = let no : Ok bytes ≡ Err r = sym (value_says laws bytes text are s) ∙ h in absurd cc
said_not_refused laws Set bytes text r are s h = let no : Ok s.0 ≡ Err r = sym (set_says laws bytes text are s) ∙ h in absurd cc

-- ---- a line's words

some_before : (c : Carried) → 0 < words_before c
some_before Message = omega arith
some_before Value = omega arith
some_before Set = omega arith

parted : (n : ℕ) (words : List (List ℕ)) → take n words ++ drop n words ≡ words
parted zero words = refl
parted (suc n) [] = refl
parted (suc n) (w ∷ ws) = ap (λ l. w ∷ l) (parted n ws)

drop_front : (n : ℕ) (words rest : List (List ℕ)) (last : List ℕ) → drop n words ≡ last ∷ [] → drop n (take n words ++ rest) ≡ rest
drop_front zero words rest last h = refl
drop_front (suc n) [] rest last h = absurd cc
drop_front (suc n) (w ∷ ws) rest last h = drop_front n ws rest last h

take_front : (n : ℕ) (words rest : List (List ℕ)) (last : List ℕ) → drop n words ≡ last ∷ [] → take n (take n words ++ rest) ≡ take n words
take_front zero words rest last h = refl
take_front (suc n) [] rest last h = absurd cc
take_front (suc n) (w ∷ ws) rest last h = ap (λ l. w ∷ l) (take_front n ws rest last h)

carried_front : (n : ℕ) (words rest : List (List ℕ)) (last : List ℕ) → 0 < n → drop n words ≡ last ∷ [] → carried_in (take n words ++ rest) ≡ carried_in words
carried_front zero words rest last some h = absurd (omega arith)
carried_front (suc n) [] rest last some h = absurd cc
carried_front (suc n) (w ∷ ws) rest last some h = refl

-- the line is its first words and its digits
whole_line : (n : ℕ) (line digits : List ℕ) → drop n (words_of line) ≡ digits ∷ [] → before (take n (words_of line)) digits ≡ line
whole_line n line digits h =
    sym (joined_before (take n (words_of line)) digits) ∙ ap (λ l. join_with_byte 32 (take n (words_of line) ++ l)) (sym h) ∙ ap (join_with_byte 32) (parted n (words_of line)) ∙ joined_again 32 line

-- ---- a line

-- the text of a readable line: its first words, and the text of its bytes
pub record HasText (c : Carried) (line out : List ℕ) : Type 0 where
  pub bytes : List ℕ
  pub text : List ℕ
  pub are : IsBytes bytes
  pub digits : drop (words_before c) (words_of line) ≡ digits_of bytes ∷ []
  pub shown : IsShown c bytes text
  pub out_is : out ≡ before (take (words_before c) (words_of line)) text

has_text : (laws : Laws) (c : Carried) (line out : List ℕ) → IsReadableBy (Some c) (words_of line) → IsTextOf c (words_of line) line out → HasText c line out
has_text laws c line out r t =
    let rest = drop (words_before c) (words_of line) in
    let same : t.0 ≡ r.0 = (let e : Ok t.0 ≡ Ok r.0 = sym t.1 ∙ r.2 in cc) in
    let are : IsBytes r.0 = are_bytes rest (digits_of r.0) r.0 r.3 r.2 in
    elim (subst (λ (b : List ℕ). IsTextLine c (take (words_before c) (words_of line)) line b out) same t.2) [
      | inl p ↦ record { bytes = r.0; text = p.0; are = are; digits = r.3; shown = p.1; out_is = p.2 }
      | inr p ↦ absurd (shown_read laws c r.0 r.1 p.0 r.4 p.1)
    ]

-- the words of that text
words_again : (c : Carried) (line out : List ℕ) (h : HasText c line out) → words_of out ≡ take (words_before c) (words_of line) ++ words_of h.text
words_again c line out h =
    ap words_of h.out_is ∙ parts_before (take (words_before c) (words_of line)) h.text (take_clear 32 (words_before c) (words_of line) (parts_clear 32 line))

rest_again : (c : Carried) (line out : List ℕ) (h : HasText c line out) → drop (words_before c) (words_of out) ≡ words_of h.text
rest_again c line out h = ap (drop (words_before c)) (words_again c line out h) ∙ drop_front (words_before c) (words_of line) (words_of h.text) (digits_of h.bytes) h.digits

front_again : (c : Carried) (line out : List ℕ) (h : HasText c line out) → take (words_before c) (words_of out) ≡ take (words_before c) (words_of line)
front_again c line out h = ap (take (words_before c)) (words_again c line out h) ∙ take_front (words_before c) (words_of line) (words_of h.text) (digits_of h.bytes) h.digits

carried_again : (c : Carried) (line out : List ℕ) (h : HasText c line out) → carried_in (words_of out) ≡ carried_in (words_of line)
carried_again c line out h = ap carried_in (words_again c line out h) ∙ carried_front (words_before c) (words_of line) (words_of h.text) (digits_of h.bytes) (some_before c) h.digits

hex_again : (laws : Laws) (c : Carried) (line out again : List ℕ) → HasText c line out → IsHexOf c (words_of out) out again → again ≡ line
hex_again laws c line out again h x =
    elim x [
      | inl p ↦
          let said : Say c (words_of h.text) p.0 = subst (λ (w : List (List ℕ)). Say c w p.0) (rest_again c line out h) p.1 in
          let same : p.0 ≡ h.bytes = said_bytes laws c h.bytes h.text p.0 h.are h.shown said in
          p.2 ∙ ap (λ l. before l (digits_of p.0)) (front_again c line out h) ∙ ap (λ b. before (take (words_before c) (words_of line)) (digits_of b)) same ∙ whole_line (words_before c) line (digits_of h.bytes) h.digits
      | inr p ↦ absurd (said_not_refused laws c h.bytes h.text p.0 h.are h.shown (subst (λ (w : List (List ℕ)). AreRefused c w (Bad p.0)) (rest_again c line out h) p.1))
    ]

hex_not_refused : (laws : Laws) (c : Carried) (line out : List ℕ) (r : BadWord) → HasText c line out → IsNoHex c (words_of out) (Bad r) → ⊥
hex_not_refused laws c line out r h x =
    said_not_refused laws c h.bytes h.text (record { word = x.0; expected = r.expected }) h.are h.shown (subst (λ (w : List (List ℕ)). AreRefused c w (Bad (record { word = x.0; expected = r.expected }))) (rest_again c line out h) x.1)

-- by what the line carries
again_by : (laws : Laws) (o : Option Carried) (line out again : List ℕ) → carried_in (words_of line) ≡ o → IsReadableBy o (words_of line) → IsLineBy o Text line out → IsLineOf Hex out again → again ≡ line
again_by laws None line out again e r t h =
    let none : carried_in (words_of out) ≡ None = ap (λ l. carried_in (words_of l)) t ∙ e in
    subst (λ (o : Option Carried). IsLineBy o Hex out again) none h ∙ t
again_by laws (Some c) line out again e r t h =
    let text = has_text laws c line out r t in
    hex_again laws c line out again text (subst (λ (o : Option Carried). IsLineBy o Hex out again) (carried_again c line out text ∙ e) h)

refused_by : (laws : Laws) (o : Option Carried) (line out : List ℕ) (r : BadWord) → carried_in (words_of line) ≡ o → IsReadableBy o (words_of line) → IsLineBy o Text line out → IsNoLineOf Hex out (Bad r) → ⊥
refused_by laws None line out r e q t h =
    let none : carried_in (words_of out) ≡ None = ap (λ l. carried_in (words_of l)) t ∙ e in
    subst (λ (o : Option Carried). IsNoLineBy o Hex out (Bad r)) none h
refused_by laws (Some c) line out r e q t h =
    let text = has_text laws c line out q t in
    hex_not_refused laws c line out r text (subst (λ (o : Option Carried). IsNoLineBy o Hex out (Bad r)) (carried_again c line out text ∙ e) h)

clear_by : (laws : Laws) (o : Option Carried) (line out : List ℕ) → IsReadableBy o (words_of line) → IsLineBy o Text line out → HasNo 10 line → HasNo 10 out
clear_by laws None line out r t h = subst (HasNo 10) (sym t) h
clear_by laws (Some c) line out r t h =
    let text = has_text laws c line out r t in
    let front : AllByRecursion (HasNo 10) (take (words_before c) (words_of line)) = take_clear 10 (words_before c) (words_of line) (parts_keep 32 10 line h) in
    subst (HasNo 10) (sym text.out_is) (before_clear (take (words_before c) (words_of line)) text.text front (shown_clear laws c text.bytes text.text text.are text.shown))

pub line_again : (laws : Laws) (line out again : List ℕ) → IsReadableLine line → IsLineOf Text line out → IsLineOf Hex out again → again ≡ line
line_again laws line out again r t h = again_by laws (carried_in (words_of line)) line out again refl r t h

pub line_not_refused : (laws : Laws) (line out : List ℕ) (r : BadWord) → IsReadableLine line → IsLineOf Text line out → IsNoLineOf Hex out (Bad r) → ⊥
line_not_refused laws line out r q t h = refused_by laws (carried_in (words_of line)) line out r refl q t h

pub line_clear : (laws : Laws) (line out : List ℕ) → IsReadableLine line → IsLineOf Text line out → HasNo 10 line → HasNo 10 out
line_clear laws line out r t h = clear_by laws (carried_in (words_of line)) line out r t h
