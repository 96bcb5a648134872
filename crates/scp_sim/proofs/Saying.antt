-- The line of a command says it.
use Rattle.std.proofs.Common.{◌≡◌, ◌≤◌, ◌<◌, ◌^◌, ◌/◌, ◌%◌, ◌+◌, ◌-◌, ℕ, zero, suc, Bool, true, false, List, [], ◌∷◌, ◌++◌, Option, Some, None, is_some, codes, refl, sym, ◌∙◌, ap, subst, arith, append_assoc, append-nil}
use Rattle.std.specs.Prelude.{◌==◌, ◌&&◌, ◌||◌, ◌≢◌, All, nat_eq, nat_le, nat_lt, slice_index, option_map, if◌then◌else◌}
use Rattle.std.specs.List.{list_all, slice_split}
use Rattle.std.specs.Fmt.{decimal}
use Rattle.std.specs.Result.{result_ok}
use Rattle.std.proofs.lemmas.Bool.Decides.{nat_tests}
use Rattle.std.proofs.lemmas.Fmt.{decimal_digit}
use Rattle.std.proofs.lemmas.List.Elements.{All-nil, All-cons}
use Rattle.std.proofs.lemmas.List.Splits.{slice_split_at, slice_split_none}
use Rattle.hex.specs.Hex.{IsBytes, lower_digits, encode_lower, encode_with, decode_of}
use Rattle.hex.proofs.HexLemmas.{decode_of-encode_lower}
use Rattle.scp_script_check.specs.scp_script_text.specs.Lines.{digits_of}
use Rattle.scp_line.specs.scp_script.specs.declared.command.Command.{Command}
use Rattle.scp_line.specs.scp_script.specs.declared.command.Command.TheVariants.{Caps, Nodes, Set, Open, Close, Send, Propose, Round, Timer, Tick, Ask, Settle, Wait, Report}
use Rattle.scp_line.specs.scp_script.specs.Nodes.{IsSmall, NamesNodes}
use Rattle.scp_line.specs.scp_script.specs.Script.{command_in, open_by, close_by, send_by, propose_by, round_by, timer_by, wait_by, ask_by}
use Rattle.scp_line.specs.scp_script.specs.Words.{is_ascii, is_skipped, words_of, same, node_in, link_by, link_in, number_in, hex_bytes, digits_bytes}
use Rattle.scp_line.specs.scp_script.proofs.Lines.{is_number}
use Rattle.scp_line.specs.scp_text.specs.Pieces.{is_plain}
use Rattle.scp_line.specs.scp_text.proofs.Items.{and_both}
use Rattle.scp_line.specs.scp_text.proofs.Numbers.{decimal_plain}
use Rattle.scp_sim.specs.Lines.{IsDone}
use Rattle.scp_sim.specs.inside.Lines.{line_of, IsInRange, Says}

-- ---- words

-- printable ASCII without a space
abbrev pub is_printed : ℕ → Bool
is_printed b = nat_lt 32 b && nat_lt b 127

-- so all of a word
abbrev pub IsWord : List ℕ → Type 0
IsWord word = list_all is_printed word ≡ true

word_first : (x : ℕ) (xs : List ℕ) → IsWord (x ∷ xs) → (is_printed x ≡ true) × IsWord xs
word_first x xs h = and_both (is_printed x) (list_all is_printed xs) h

plain_word : (xs : List ℕ) → list_all is_plain xs ≡ true → IsWord xs
plain_word [] h = refl
plain_word (x ∷ xs) h =
    let both = and_both (is_plain x) (list_all is_plain xs) h in
    let printed : is_printed x ≡ true = (and_both (is_printed x) _ both.0).0 in
    rw (printed, plain_word xs both.1) refl

pub number_word : (n : ℕ) → n < 2 ^ 64 → IsWord (decimal n)
number_word n small = plain_word (decimal n) (decimal_plain n small)

digit_printed : (n : ℕ) → n < 16 → is_printed (slice_index lower_digits n) ≡ true
digit_printed zero h = refl
digit_printed (suc zero) h = refl
digit_printed (suc (suc zero)) h = refl
digit_printed (suc (suc (suc zero))) h = refl
digit_printed (suc (suc (suc (suc zero)))) h = refl
digit_printed (suc (suc (suc (suc (suc zero))))) h = refl
digit_printed (suc (suc (suc (suc (suc (suc zero)))))) h = refl
digit_printed (suc (suc (suc (suc (suc (suc (suc zero))))))) h = refl
digit_printed (suc (suc (suc (suc (suc (suc (suc (suc zero)))))))) h = refl
digit_printed (suc (suc (suc (suc (suc (suc (suc (suc (suc zero))))))))) h = refl
digit_printed (suc (suc (suc (suc (suc (suc (suc (suc (suc (suc zero)))))))))) h = refl
digit_printed (suc (suc (suc (suc (suc (suc (suc (suc (suc (suc (suc zero))))))))))) h = refl
digit_printed (suc (suc (suc (suc (suc (suc (suc (suc (suc (suc (suc (suc zero)))))))))))) h = refl
digit_printed (suc (suc (suc (suc (suc (suc (suc (suc (suc (suc (suc (suc (suc zero))))))))))))) h = refl
digit_printed (suc (suc (suc (suc (suc (suc (suc (suc (suc (suc (suc (suc (suc (suc zero)))))))))))))) h = refl
digit_printed (suc (suc (suc (suc (suc (suc (suc (suc (suc (suc (suc (suc (suc (suc (suc zero))))))))))))))) h = refl
digit_printed (suc (suc (suc (suc (suc (suc (suc (suc (suc (suc (suc (suc (suc (suc (suc (suc n)))))))))))))))) h = absurd (omega arith)

bytes_rest : (b : ℕ) (bytes : List ℕ) → IsBytes (b ∷ bytes) → IsBytes bytes
bytes_rest b bytes h = λ i. h (suc i)

digits_word : (bytes : List ℕ) → IsBytes bytes → IsWord (encode_lower bytes)
unfolding encode_with
digits_word [] h = refl
digits_word (b ∷ bytes) h =
    let small : b < 256 = h 0 in
    let high : is_printed (slice_index lower_digits (b / 16)) ≡ true = digit_printed (b / 16) (omega arith) in
    let low : is_printed (slice_index lower_digits (b % 16)) ≡ true = digit_printed (b % 16) (omega arith) in
    rw (high, low, digits_word bytes (bytes_rest b bytes h)) refl

bytes_word : (bytes : List ℕ) → IsBytes bytes → IsWord (digits_of bytes)
bytes_word [] h = refl
bytes_word (b ∷ bytes) h = digits_word (b ∷ bytes) h

spaceless : (word : List ℕ) → IsWord word → All (λ b. (b == 32) ≡ false) word
spaceless [] h = All-nil (λ b. (b == 32) ≡ false)
spaceless (x ∷ xs) h =
    let both = word_first x xs h in
    let above : nat_lt 32 x ≡ true = (and_both (nat_lt 32 x) (nat_lt x 127) both.0).0 in
    let lt : 32 < x = grind (arith, nat_tests) in
    let no : (x == 32) ≡ false = grind (arith, nat_tests) in
    All-cons (λ b. (b == 32) ≡ false) x xs no (spaceless xs both.1)

ascii_word : (word more : List ℕ) → IsWord word → is_ascii more ≡ true → is_ascii (word ++ more) ≡ true
ascii_word [] more h k = k
ascii_word (x ∷ xs) more h k =
    let both = word_first x xs h in
    let below : nat_lt x 127 ≡ true = (and_both (nat_lt 32 x) (nat_lt x 127) both.0).1 in
    let one : nat_lt x 128 ≡ true = grind (arith, nat_tests) in
    rw (one, ascii_word xs more both.1 k) refl

ascii_last : (word : List ℕ) → IsWord word → is_ascii word ≡ true
ascii_last word h = ap (λ (w : List ℕ). is_ascii w) (sym (append-nil word)) ∙ ascii_word word [] h refl

-- ---- lines of two, three and four words

good_line : (a s : Bool) (o : Option Command) (c : Command) → a ≡ true → o ≡ Some c → (a && (s || is_some o)) ≡ true
good_line true true o c p q = refl
good_line true false o c p q = ap (λ (x : Option Command). is_some x) q
good_line false s o c p q = absurd cc

says_words : (line : List ℕ) (words : List (List ℕ)) (c : Command) → is_ascii line ≡ true → is_skipped line ≡ false → slice_split (λ b. b == 32) line ≡ words → command_in words ≡ Some c → Says line c
says_words line words c ascii there parts says =
    let all : words_of line ≡ words = ap (λ (s : Bool). if s then [] else slice_split (λ b. b == 32) line) there ∙ parts in
    let it : command_in (words_of line) ≡ Some c = ap (λ (ws : List (List ℕ)). command_in ws) all ∙ says in
    record { good = good_line (is_ascii line) (is_skipped line) (command_in (words_of line)) c ascii it; says = it }

pub says_two : (v a : List ℕ) (c : Command) → IsWord v → IsWord a → is_skipped (v ++ 32 ∷ a) ≡ false → command_in (v ∷ a ∷ []) ≡ Some c → Says (v ++ 32 ∷ a) c
says_two v a c hv ha there says =
    let cut : ℕ → Bool = λ b. b == 32 in
    let last : slice_split cut a ≡ a ∷ [] = slice_split_none cut a (spaceless a ha) in
    let parts : slice_split cut (v ++ 32 ∷ a) ≡ v ∷ a ∷ [] = slice_split_at cut v 32 a (spaceless v hv) refl ∙ ap (λ (ws : List (List ℕ)). v ∷ ws) last in
    says_words (v ++ 32 ∷ a) (v ∷ a ∷ []) c (ascii_word v (32 ∷ a) hv (ascii_last a ha)) there parts says

pub says_three : (v a b : List ℕ) (c : Command) → IsWord v → IsWord a → IsWord b → is_skipped (v ++ 32 ∷ (a ++ 32 ∷ b)) ≡ false → command_in (v ∷ a ∷ b ∷ []) ≡ Some c → Says (v ++ 32 ∷ (a ++ 32 ∷ b)) c
says_three v a b c hv ha hb there says =
    let cut : ℕ → Bool = λ x. x == 32 in
    let last : slice_split cut b ≡ b ∷ [] = slice_split_none cut b (spaceless b hb) in
    let two : slice_split cut (a ++ 32 ∷ b) ≡ a ∷ b ∷ [] = slice_split_at cut a 32 b (spaceless a ha) refl ∙ ap (λ (ws : List (List ℕ)). a ∷ ws) last in
    let parts : slice_split cut (v ++ 32 ∷ (a ++ 32 ∷ b)) ≡ v ∷ a ∷ b ∷ [] = slice_split_at cut v 32 (a ++ 32 ∷ b) (spaceless v hv) refl ∙ ap (λ (ws : List (List ℕ)). v ∷ ws) two in
    says_words (v ++ 32 ∷ (a ++ 32 ∷ b)) (v ∷ a ∷ b ∷ []) c (ascii_word v (32 ∷ (a ++ 32 ∷ b)) hv (ascii_word a (32 ∷ b) ha (ascii_last b hb))) there parts says

pub says_four : (v a b d : List ℕ) (c : Command) → IsWord v → IsWord a → IsWord b → IsWord d → is_skipped (v ++ 32 ∷ (a ++ 32 ∷ (b ++ 32 ∷ d))) ≡ false → command_in (v ∷ a ∷ b ∷ d ∷ []) ≡ Some c → Says (v ++ 32 ∷ (a ++ 32 ∷ (b ++ 32 ∷ d))) c
says_four v a b d c hv ha hb hd there says =
    let cut : ℕ → Bool = λ x. x == 32 in
    let last : slice_split cut d ≡ d ∷ [] = slice_split_none cut d (spaceless d hd) in
    let two : slice_split cut (b ++ 32 ∷ d) ≡ b ∷ d ∷ [] = slice_split_at cut b 32 d (spaceless b hb) refl ∙ ap (λ (ws : List (List ℕ)). b ∷ ws) last in
    let three : slice_split cut (a ++ 32 ∷ (b ++ 32 ∷ d)) ≡ a ∷ b ∷ d ∷ [] = slice_split_at cut a 32 (b ++ 32 ∷ d) (spaceless a ha) refl ∙ ap (λ (ws : List (List ℕ)). a ∷ ws) two in
    let parts : slice_split cut (v ++ 32 ∷ (a ++ 32 ∷ (b ++ 32 ∷ d))) ≡ v ∷ a ∷ b ∷ d ∷ [] = slice_split_at cut v 32 (a ++ 32 ∷ (b ++ 32 ∷ d)) (spaceless v hv) refl ∙ ap (λ (ws : List (List ℕ)). v ∷ ws) three in
    says_words (v ++ 32 ∷ (a ++ 32 ∷ (b ++ 32 ∷ d))) (v ∷ a ∷ b ∷ d ∷ []) c (ascii_word v (32 ∷ (a ++ 32 ∷ (b ++ 32 ∷ d))) hv (ascii_word a (32 ∷ (b ++ 32 ∷ d)) ha (ascii_word b (32 ∷ d) hb (ascii_last d hd)))) there parts says

-- spaces written one after another are those between the words
pub spaced_two : (a b : List ℕ) → (a ++ 32 ∷ []) ++ b ≡ a ++ 32 ∷ b
spaced_two a b = append_assoc a (32 ∷ []) b

pub spaced_three : (a b d : List ℕ) → (((a ++ 32 ∷ []) ++ b) ++ 32 ∷ []) ++ d ≡ a ++ 32 ∷ (b ++ 32 ∷ d)
spaced_three a b d =
    append_assoc ((a ++ 32 ∷ []) ++ b) (32 ∷ []) d
    ∙ (append_assoc (a ++ 32 ∷ []) b (32 ∷ d) ∙ append_assoc a (32 ∷ []) (b ++ 32 ∷ d))

-- ---- what the words say

pub node_again : (n : ℕ) → IsSmall n → node_in (decimal n) ≡ Some n
node_again n h =
    let from_one : 1 ≤ n = h.0 in
    let to_eight : 48 + n ≤ 56 = omega (arith, h.1) in
    let digit : decimal n ≡ (48 + n) ∷ [] = decimal_digit n (omega arith) in
    let low : nat_le 49 (48 + n) ≡ true = grind (arith, nat_tests) in
    let high : nat_le (48 + n) 56 ≡ true = grind (arith, nat_tests) in
    let back : (48 + n) - 48 ≡ n = omega arith in
    ap (λ (w : List ℕ). node_in w) digit
    ∙ (ap (λ (t : Bool). if t && nat_le (48 + n) 56 then Some ((48 + n) - 48) else None) low
    ∙ (ap (λ (t : Bool). if true && t then Some ((48 + n) - 48) else None) high ∙ ap (λ (m : ℕ). Some m) back))

link_again : (from to : ℕ) → IsSmall from → IsSmall to → from ≢ to → link_in (decimal from) (decimal to) ≡ Some (from, to)
link_again from to hf ht other =
    let no : nat_eq from to ≡ false = grind (arith, nat_tests, other) in
    ap (λ (o : Option ℕ). link_by o (node_in (decimal to))) (node_again from hf)
    ∙ (ap (λ (o : Option ℕ). link_by (Some from) o) (node_again to ht) ∙ ap (λ (b : Bool). if b then None else Some (from, to)) no)

number_again : (n : ℕ) → n < 2 ^ 64 → number_in (decimal n) ≡ Some n
number_again n small = is_number (decimal n) n small refl

never_both : (b : Bool) → (b && false) ≡ false
never_both true = refl
never_both false = refl

-- digits are no dash
no_dash : (b : ℕ) (bytes : List ℕ) → same (encode_lower (b ∷ bytes)) (codes "-") ≡ false
unfolding encode_with
no_dash b bytes = never_both (nat_eq (slice_index lower_digits (b / 16)) 45)

digits_back : (b : ℕ) (bytes : List ℕ) → digits_bytes (encode_lower (b ∷ bytes)) ≡ result_ok (decode_of (encode_lower (b ∷ bytes)))
unfolding encode_with
digits_back b bytes = refl

bytes_again : (bytes : List ℕ) → IsBytes bytes → hex_bytes (digits_of bytes) ≡ Some bytes
bytes_again [] h = refl
bytes_again (b ∷ bytes) h =
    let word = encode_lower (b ∷ bytes) in
    ap (λ (t : Bool). if t then Some [] else digits_bytes word) (no_dash b bytes) ∙ (digits_back b bytes ∙ ap result_ok (decode_of-encode_lower (b ∷ bytes) h))

-- ---- each command

small_number : (n : ℕ) → IsSmall n → n < 2 ^ 64
small_number n h = omega (arith, h.1)

small_word : (n : ℕ) → IsSmall n → IsWord (decimal n)
small_word n h = number_word n (small_number n h)

line_is : (a b : List ℕ) (c : Command) → a ≡ b → Says b c → Says a c
line_is a b c e s = subst (λ (l : List ℕ). Says l c) (sym e) s

says_open : (from to : ℕ) → NamesNodes (Open from to) → Says (line_of (Open from to)) (Open from to)
says_open from to h =
    line_is (line_of (Open from to)) (codes "open" ++ 32 ∷ (decimal from ++ 32 ∷ decimal to)) (Open from to) (ap (λ (t : List ℕ). codes "open" ++ 32 ∷ t) (spaced_two (decimal from) (decimal to)))
    (says_three (codes "open") (decimal from) (decimal to) (Open from to) refl (small_word from h.0) (small_word to h.1) refl (ap open_by (link_again from to h.0 h.1 h.2)))

says_close : (from to : ℕ) → NamesNodes (Close from to) → Says (line_of (Close from to)) (Close from to)
says_close from to h =
    line_is (line_of (Close from to)) (codes "close" ++ 32 ∷ (decimal from ++ 32 ∷ decimal to)) (Close from to) (ap (λ (t : List ℕ). codes "close" ++ 32 ∷ t) (spaced_two (decimal from) (decimal to)))
    (says_three (codes "close") (decimal from) (decimal to) (Close from to) refl (small_word from h.0) (small_word to h.1) refl (ap close_by (link_again from to h.0 h.1 h.2)))

says_send : (from to : ℕ) (bytes : List ℕ) → NamesNodes (Send from to bytes) → IsBytes bytes → Says (line_of (Send from to bytes)) (Send from to bytes)
says_send from to bytes h are =
    line_is (line_of (Send from to bytes)) (codes "send" ++ 32 ∷ (decimal from ++ 32 ∷ (decimal to ++ 32 ∷ digits_of bytes))) (Send from to bytes) (ap (λ (t : List ℕ). codes "send" ++ 32 ∷ t) (spaced_three (decimal from) (decimal to) (digits_of bytes)))
    (says_four (codes "send") (decimal from) (decimal to) (digits_of bytes) (Send from to bytes) refl (small_word from h.0) (small_word to h.1) (bytes_word bytes are) refl
    (ap (λ (l : Option (ℕ × ℕ)). send_by l (hex_bytes (digits_of bytes))) (link_again from to h.0 h.1 h.2) ∙ ap (send_by (Some (from, to))) (bytes_again bytes are)))

says_propose : (node slot : ℕ) (value : List ℕ) → IsSmall node → slot < 2 ^ 64 → IsBytes value → Says (line_of (Propose node slot value)) (Propose node slot value)
says_propose node slot value h small are =
    line_is (line_of (Propose node slot value)) (codes "propose" ++ 32 ∷ (decimal node ++ 32 ∷ (decimal slot ++ 32 ∷ digits_of value))) (Propose node slot value) (ap (λ (t : List ℕ). codes "propose" ++ 32 ∷ t) (spaced_three (decimal node) (decimal slot) (digits_of value)))
    (says_four (codes "propose") (decimal node) (decimal slot) (digits_of value) (Propose node slot value) refl (small_word node h) (number_word slot small) (bytes_word value are) refl
    (ap (λ (o : Option ℕ). propose_by o (number_in (decimal slot)) (hex_bytes (digits_of value))) (node_again node h)
    ∙ (ap (λ (o : Option ℕ). propose_by (Some node) o (hex_bytes (digits_of value))) (number_again slot small) ∙ ap (propose_by (Some node) (Some slot)) (bytes_again value are))))

says_round : (node slot : ℕ) → IsSmall node → slot < 2 ^ 64 → Says (line_of (Round node slot)) (Round node slot)
says_round node slot h small =
    line_is (line_of (Round node slot)) (codes "round" ++ 32 ∷ (decimal node ++ 32 ∷ decimal slot)) (Round node slot) (ap (λ (t : List ℕ). codes "round" ++ 32 ∷ t) (spaced_two (decimal node) (decimal slot)))
    (says_three (codes "round") (decimal node) (decimal slot) (Round node slot) refl (small_word node h) (number_word slot small) refl
    (ap (λ (o : Option ℕ). round_by o (number_in (decimal slot))) (node_again node h) ∙ ap (round_by (Some node)) (number_again slot small)))

says_timer : (node slot : ℕ) → IsSmall node → slot < 2 ^ 64 → Says (line_of (Timer node slot)) (Timer node slot)
says_timer node slot h small =
    line_is (line_of (Timer node slot)) (codes "timer" ++ 32 ∷ (decimal node ++ 32 ∷ decimal slot)) (Timer node slot) (ap (λ (t : List ℕ). codes "timer" ++ 32 ∷ t) (spaced_two (decimal node) (decimal slot)))
    (says_three (codes "timer") (decimal node) (decimal slot) (Timer node slot) refl (small_word node h) (number_word slot small) refl
    (ap (λ (o : Option ℕ). timer_by o (number_in (decimal slot))) (node_again node h) ∙ ap (timer_by (Some node)) (number_again slot small)))

says_wait : (node things : ℕ) → IsSmall node → things < 2 ^ 64 → Says (line_of (Wait node things)) (Wait node things)
says_wait node things h small =
    line_is (line_of (Wait node things)) (codes "wait" ++ 32 ∷ (decimal node ++ 32 ∷ decimal things)) (Wait node things) (ap (λ (t : List ℕ). codes "wait" ++ 32 ∷ t) (spaced_two (decimal node) (decimal things)))
    (says_three (codes "wait") (decimal node) (decimal things) (Wait node things) refl (small_word node h) (number_word things small) refl
    (ap (λ (o : Option ℕ). wait_by o (number_in (decimal things))) (node_again node h) ∙ ap (wait_by (Some node)) (number_again things small)))

says_ask : (from to slot : ℕ) → NamesNodes (Ask from to slot) → slot < 2 ^ 64 → Says (line_of (Ask from to slot)) (Ask from to slot)
says_ask from to slot h small =
    line_is (line_of (Ask from to slot)) (codes "ask" ++ 32 ∷ (decimal from ++ 32 ∷ (decimal to ++ 32 ∷ decimal slot))) (Ask from to slot) (ap (λ (t : List ℕ). codes "ask" ++ 32 ∷ t) (spaced_three (decimal from) (decimal to) (decimal slot)))
    (says_four (codes "ask") (decimal from) (decimal to) (decimal slot) (Ask from to slot) refl (small_word from h.0) (small_word to h.1) (number_word slot small) refl
    (ap (λ (l : Option (ℕ × ℕ)). ask_by l (number_in (decimal slot))) (link_again from to h.0 h.1 h.2) ∙ ap (ask_by (Some (from, to))) (number_again slot small)))

-- a written line says its command
pub line_says : (c : Command) → IsDone c → IsInRange c → Says (line_of c) c
line_says (Caps capacities) d r = absurd (let no : false ≡ true = d.begun in cc)
line_says (Nodes count quorum) d r = absurd (let no : false ≡ true = d.begun in cc)
line_says (Set node set) d r = absurd (let no : false ≡ true = d.begun in cc)
line_says (Open from to) d r = says_open from to d.names
line_says (Close from to) d r = says_close from to d.names
line_says (Send from to bytes) d r = says_send from to bytes d.names r
line_says (Propose node slot value) d r = says_propose node slot value d.names r.0 r.1
line_says (Round node slot) d r = says_round node slot d.names r
line_says (Timer node slot) d r = says_timer node slot d.names r
line_says (Tick node) d r = says_two (codes "tick") (decimal node) (Tick node) refl (small_word node d.names) refl (ap (option_map Tick) (node_again node d.names))
line_says (Ask from to slot) d r = says_ask from to slot d.names r
line_says Settle d r = record { good = refl; says = refl }
line_says (Wait node things) d r = says_wait node things d.names r
line_says (Report node) d r = says_two (codes "report") (decimal node) (Report node) refl (small_word node d.names) refl (ap (option_map Report) (node_again node d.names))
