-- The words and lines of a head.
use Rattle.std.proofs.Common.{◌≡◌, ◌⊎◌, inl, inr, ◌≢◌, ◌<◌, ◌≤◌, ◌+◌, ◌^◌, ℕ, Bool, true, false, not, ◌&&◌, List, [], ◌∷◌, ◌++◌, length, take, drop, codes, Ok, refl, sym, ◌∙◌, ap, subst, arith, append_assoc, length-append, length-drop}
use Rattle.std.specs.Prelude.{nat_eq}
use Rattle.std.specs.List.{AllByRecursion, list_all}
use Rattle.std.specs.Fmt.{decimal}
use Rattle.std.specs.Str.Parse.{digits_value}
use Rattle.std.proofs.lemmas.Fmt.{decimal_is_IsNumeral}
use Rattle.std.proofs.lemmas.List.{append_cancel_left, drop_at, take_at, drop-drop}
use Rattle.std.proofs.lemmas.Bool.Decides.{nat_tests}
use Rattle.hex.specs.Hex.{encode_lower, encode_with, decode_of, IsBytes}
use Rattle.hex.proofs.HexLemmas.{decode_of-encode_lower}
use Rattle.scp_live_log.specs.Disk.{StartsWith}
use Rattle.scp_live_head.specs.Head.{FirstView, HeadView, IsFirst, IsHead, NotAtFront, HasNoFirst, HasNoBase, HasNoSum, ended, digits_or_dash, first_line, base_line, said_line, said_lines, sum_line, above, head_bytes}
use Rattle.scp_live_head.specs.declared.reading.HeadFault.{HeadFault}
use Rattle.scp_live_head.specs.declared.reading.HeadFault.TheVariants.{Line, NoMemory}
use Rattle.scp_live_head.specs.inside.Words.{Without}
use Rattle.scp_live_head.proofs.Cuts.{words_apart, no_word, without_both, number_without, bytes_without}

-- ---- the words of the first line

abbrev pub behind_epoch : FirstView → List ℕ
behind_epoch f = decimal f.first ++ 32 ∷ encode_lower f.before

abbrev pub behind_digest : FirstView → List ℕ
behind_digest f = decimal f.epoch ++ 32 ∷ behind_epoch f

abbrev pub behind_name : FirstView → List ℕ
behind_name f = encode_lower f.digest ++ 32 ∷ behind_digest f

pub name_cut : (f : FirstView) (line rest : List ℕ) → line ≡ first_line f → line ≡ codes "scp_node 2 " ++ rest → rest ≡ behind_name f
name_cut f line rest is splits = append_cancel_left (codes "scp_node 2 ") rest (behind_name f) (sym splits ∙ is)

-- what is cut off is the word and what is behind it
pub word_cut : (word behind whole a x : List ℕ) → Without 32 word → whole ≡ word ++ 32 ∷ behind → (whole ≡ a ++ 32 ∷ x) × Without 32 a → (a ≡ word) × (x ≡ behind)
word_cut word behind whole a x none is cut = words_apart 32 a word x behind cut.1 none (sym cut.0 ∙ is)

-- and it is cut
pub word_there : (word behind whole : List ℕ) → whole ≡ word ++ 32 ∷ behind → Without 32 whole → ⊥
word_there word behind whole is none = no_word 32 word behind (subst (Without 32) is none)

pub digest_word : (f : FirstView) → IsFirst f → Without 32 (encode_lower f.digest)
digest_word f fits = bytes_without 32 (omega arith) f.digest fits.digest.bytes

pub epoch_word : (f : FirstView) → IsFirst f → Without 32 (decimal f.epoch)
epoch_word f fits = number_without 32 (omega arith) f.epoch fits.epoch

pub first_word : (f : FirstView) → IsFirst f → Without 32 (decimal f.first)
first_word f fits = number_without 32 (omega arith) f.first fits.first

-- ---- lines have no end inside

literal : (mark : ℕ) (xs : List ℕ) → list_all (λ k. not (nat_eq k mark)) xs ≡ true → Without mark xs
literal mark [] h = tt
literal mark (x ∷ xs) h = by (nat_eq x mark) refl h (literal mark xs)
  where
    by : (b : Bool) → nat_eq x mark ≡ b → (not b && list_all (λ k. not (nat_eq k mark)) xs) ≡ true → (list_all (λ k. not (nat_eq k mark)) xs ≡ true → Without mark xs) → Without mark (x ∷ xs)
    by true e k rest = absurd cc
    by false e k rest = (λ same. let no : nat_eq x mark ≡ false = e in absurd (grind (arith, nat_tests, no, same)), rest k)

pub first_is_line : (f : FirstView) → IsFirst f → Without 10 (first_line f)
first_is_line f fits =
    let space : 32 ≢ 10 = λ (e : 32 ≡ 10). absurd (omega (arith, e)) in
    without_both 10 (codes "scp_node 2 ") (behind_name f) (literal 10 (codes "scp_node 2 ") refl)
    (without_both 10 (encode_lower f.digest) (32 ∷ behind_digest f) (bytes_without 10 (omega arith) f.digest fits.digest.bytes) (
      space,
      without_both 10 (decimal f.epoch) (32 ∷ behind_epoch f) (number_without 10 (omega arith) f.epoch fits.epoch) (
        space,
        without_both 10 (decimal f.first) (32 ∷ encode_lower f.before) (number_without 10 (omega arith) f.first fits.first)
            (space, bytes_without 10 (omega arith) f.before fits.before.bytes),
      ),
    ))

digits_are_line : (bytes : List ℕ) → IsBytes bytes → Without 10 (digits_or_dash bytes)
digits_are_line [] are = literal 10 (codes "-") refl
digits_are_line (b ∷ bytes) are = bytes_without 10 (omega arith) (b ∷ bytes) are

pub base_is_line : (base : List ℕ) → IsBytes base → Without 10 (base_line base)
base_is_line base are = without_both 10 (codes "base ") (digits_or_dash base) (literal 10 (codes "base ") refl) (digits_are_line base are)

pub said_is_line : (said : List ℕ) → IsBytes said → Without 10 (said_line said)
said_is_line said are = without_both 10 (codes "said ") (encode_lower said) (literal 10 (codes "said ") refl) (bytes_without 10 (omega arith) said are)

-- ---- the line at the front of some bytes

line_front : (line tail : List ℕ) → ended line ++ tail ≡ line ++ 10 ∷ tail
line_front line tail = append_assoc line (10 ∷ []) tail

-- there is one
pub line_there : (line tail bytes : List ℕ) → bytes ≡ ended line ++ tail → Without 10 bytes → ⊥
line_there line tail bytes is none = no_word 10 line tail (subst (Without 10) (is ∙ line_front line tail) none)

-- it is cut
pub line_cut : (line tail bytes a x : List ℕ) → Without 10 line → bytes ≡ ended line ++ tail → (bytes ≡ a ++ 10 ∷ x) × Without 10 a → (a ≡ line) × (x ≡ tail)
line_cut line tail bytes a x none is cut = words_apart 10 a line x tail cut.1 none (sym cut.0 ∙ is ∙ line_front line tail)

-- what was written is there
pub written_there : (line again written tail bytes : List ℕ) → written ≡ ended again → again ≡ line → bytes ≡ ended line ++ tail → bytes ≡ written ++ tail
written_there line again written tail bytes is same there = there ∙ ap (λ (l : List ℕ). l ++ tail) (ap ended (sym same) ∙ sym is)

-- ---- digits

-- they aren't a dash
even : (bytes : List ℕ) → encode_lower bytes ≡ codes "-" → ⊥
unfolding encode_with
even [] e = absurd cc
even (b ∷ bytes) e = absurd cc

pub no_dash : (bytes : List ℕ) → encode_lower bytes ≡ codes "-" → ⊥
no_dash bytes e = even bytes e

-- ---- what is written is of one head

hex_apart : (a b : List ℕ) → IsBytes a → IsBytes b → encode_lower a ≡ encode_lower b → a ≡ b
hex_apart a b da db e =
    let both : Ok a ≡ decode_of (encode_lower b) = sym (decode_of-encode_lower a da) ∙ ap decode_of e in
    let same : Ok a ≡ Ok b = both ∙ decode_of-encode_lower b db in
    cc

decimals_apart : (m n : ℕ) → m < 2 ^ 64 → n < 2 ^ 64 → decimal m ≡ decimal n → m ≡ n
decimals_apart m n small less e = sym (decimal_is_IsNumeral m small).1 ∙ ap (digits_value 10) e ∙ (decimal_is_IsNumeral n less).1

pub same_first : (a b : FirstView) → a.digest ≡ b.digest → a.epoch ≡ b.epoch → a.first ≡ b.first → a.before ≡ b.before → a ≡ b
same_first a b d e f k =
    ap (λ (x : List ℕ). let r : FirstView = record { digest = x; epoch = a.epoch; first = a.first; before = a.before } in r) d
    ∙ ap (λ (x : ℕ). let r : FirstView = record { digest = b.digest; epoch = x; first = a.first; before = a.before } in r) e
    ∙ ap (λ (x : ℕ). let r : FirstView = record { digest = b.digest; epoch = b.epoch; first = x; before = a.before } in r) f
    ∙ ap (λ (x : List ℕ). let r : FirstView = record { digest = b.digest; epoch = b.epoch; first = b.first; before = x } in r) k

firsts_apart : (a b : FirstView) → IsFirst a → IsFirst b → first_line a ≡ first_line b → a ≡ b
firsts_apart a b fa fb e =
    let whole : behind_name a ≡ behind_name b = append_cancel_left (codes "scp_node 2 ") (behind_name a) (behind_name b) e in
    let digest = words_apart 32 (encode_lower a.digest) (encode_lower b.digest) (behind_digest a) (behind_digest b) (digest_word a fa) (digest_word b fb) whole in
    let epoch = words_apart 32 (decimal a.epoch) (decimal b.epoch) (behind_epoch a) (behind_epoch b) (epoch_word a fa) (epoch_word b fb) digest.1 in
    let first = words_apart 32 (decimal a.first) (decimal b.first) (encode_lower a.before) (encode_lower b.before) (first_word a fa) (first_word b fb) epoch.1 in
    same_first a b (hex_apart a.digest b.digest fa.digest.bytes fb.digest.bytes digest.0) (decimals_apart a.epoch b.epoch fa.epoch fb.epoch epoch.0)
    (decimals_apart a.first b.first fa.first fb.first first.0) (hex_apart a.before b.before fa.before.bytes fb.before.bytes first.1)

bases_apart : (a b : List ℕ) → IsBytes a → IsBytes b → digits_or_dash a ≡ digits_or_dash b → a ≡ b
bases_apart [] [] da db e = refl
bases_apart [] (y ∷ b) da db e = absurd (no_dash (y ∷ b) (sym e))
bases_apart (x ∷ a) [] da db e = absurd (no_dash (x ∷ a) e)
bases_apart (x ∷ a) (y ∷ b) da db e = hex_apart (x ∷ a) (y ∷ b) da db e

-- no statement is at the front
abbrev pub NoSaid : List ℕ → Type 0
NoSaid bytes = (said : List ℕ) → IsBytes said → NotAtFront (ended (said_line said)) bytes

-- two lines with their ends
lines_apart : (a b x y : List ℕ) → Without 10 a → Without 10 b → ended a ++ x ≡ ended b ++ y → (a ≡ b) × (x ≡ y)
lines_apart a b x y la lb e = words_apart 10 a b x y la lb (sym (line_front a x) ∙ e ∙ line_front b y)

pub statements_apart : (a b : List (List ℕ)) (x y : List ℕ) → AllByRecursion IsBytes a → AllByRecursion IsBytes b → NoSaid x → NoSaid y → said_lines a ++ x ≡ said_lines b ++ y → (a ≡ b) × (x ≡ y)
statements_apart [] [] x y da db nx ny e = (refl, e)
statements_apart [] (t ∷ b) x y da db nx ny e = absurd (nx t db.0 (said_lines b ++ y) (e ∙ append_assoc (ended (said_line t)) (said_lines b) y))
statements_apart (s ∷ a) [] x y da db nx ny e = absurd (ny s da.0 (said_lines a ++ x) (sym e ∙ append_assoc (ended (said_line s)) (said_lines a) x))
statements_apart (s ∷ a) (t ∷ b) x y da db nx ny e =
    let both = sym (append_assoc (ended (said_line s)) (said_lines a) x) ∙ e ∙ append_assoc (ended (said_line t)) (said_lines b) y in
    let one = lines_apart (said_line s) (said_line t) (said_lines a ++ x) (said_lines b ++ y) (said_is_line s da.0) (said_is_line t db.0) both in
    let same : s ≡ t = hex_apart s t da.0 db.0 (append_cancel_left (codes "said ") (encode_lower s) (encode_lower t) one.0) in
    let rest = statements_apart a b x y da.1 db.1 nx ny one.1 in
    (ap (λ (k : List ℕ). k ∷ a) same ∙ ap (λ (l : List (List ℕ)). t ∷ l) rest.0, rest.1)

above_front : (h : HeadView) (x : List ℕ) → above h ++ x ≡ ended (first_line h.line) ++ (ended (base_line h.base) ++ (said_lines h.said ++ x))
above_front h x =
    append_assoc (ended (first_line h.line)) (ended (base_line h.base) ++ said_lines h.said) x
    ∙ ap (λ (l : List ℕ). ended (first_line h.line) ++ l) (append_assoc (ended (base_line h.base)) (said_lines h.said) x)

same_head : (a b : HeadView) → a.line ≡ b.line → a.base ≡ b.base → a.said ≡ b.said → a ≡ b
same_head a b l c s =
    ap (λ (x : FirstView). let r : HeadView = record { line = x; base = a.base; said = a.said } in r) l
    ∙ ap (λ (x : List ℕ). let r : HeadView = record { line = b.line; base = x; said = a.said } in r) c
    ∙ ap (λ (x : List (List ℕ)). let r : HeadView = record { line = b.line; base = b.base; said = x } in r) s

pub heads_apart : (a b : HeadView) (x y : List ℕ) → IsHead a → IsHead b → NoSaid x → NoSaid y → above a ++ x ≡ above b ++ y → (a ≡ b) × (x ≡ y)
heads_apart a b x y ha hb nx ny e =
    let whole = sym (above_front a x) ∙ e ∙ above_front b y in
    let first = lines_apart (first_line a.line) (first_line b.line) _ _ (first_is_line a.line ha.line) (first_is_line b.line hb.line) whole in
    let base = lines_apart (base_line a.base) (base_line b.base) _ _ (base_is_line a.base ha.base) (base_is_line b.base hb.base) first.1 in
    let said = statements_apart a.said b.said x y ha.said hb.said nx ny base.1 in
    (same_head a b (firsts_apart a.line b.line ha.line hb.line first.0) (bases_apart a.base b.base ha.base hb.base (append_cancel_left (codes "base ") _ _ base.0)) said.0, said.1)

-- a sum is no statement
pub sum_no_said : (lines tail : List ℕ) → NoSaid (ended (sum_line lines) ++ tail)
sum_no_said lines tail said are rest e = absurd cc

head_front : (h : HeadView) (tail : List ℕ) → head_bytes h ++ tail ≡ above h ++ (ended (sum_line (above h)) ++ tail)
head_front h tail = append_assoc (above h) (ended (sum_line (above h))) tail

-- of a head, what is read above the sum is its own
pub read_above : (h got : HeadView) (bytes tail rest : List ℕ) → IsHead h → IsHead got → NoSaid rest → bytes ≡ head_bytes h ++ tail → bytes ≡ above got ++ rest → (got ≡ h) × (rest ≡ ended (sum_line (above h)) ++ tail)
read_above h got bytes tail rest hh hg none is splits =
    heads_apart got h rest (ended (sum_line (above h)) ++ tail) hg hh none (sum_no_said (above h) tail) (sym splits ∙ is ∙ head_front h tail)

-- a head has a first line
pub has_first : (h : HeadView) (bytes tail : List ℕ) → IsHead h → bytes ≡ head_bytes h ++ tail → HasNoFirst bytes → ⊥
has_first h bytes tail hh is none = none h.line hh.line _ (is ∙ head_front h tail ∙ above_front h (ended (sum_line (above h)) ++ tail))

-- and then the state
pub has_base : (h : HeadView) (bytes tail : List ℕ) → IsHead h → bytes ≡ head_bytes h ++ tail → HasNoBase bytes → ⊥
has_base h bytes tail hh is none =
    let whole = sym none.splits ∙ is ∙ head_front h tail ∙ above_front h (ended (sum_line (above h)) ++ tail) in
    let first = lines_apart (first_line none.line) (first_line h.line) none.rest _ (first_is_line none.line none.fits) (first_is_line h.line hh.line) whole in
    none.unfit h.base hh.base _ first.1

-- a dash is no state
pub dash_is : (base : List ℕ) → digits_or_dash base ≡ codes "-" → [] ≡ base
dash_is [] e = refl
dash_is (b ∷ base) e = absurd (no_dash (b ∷ base) e)

-- and all else is its digits
pub digits_is : (base : List ℕ) → (digits_or_dash base ≡ codes "-" → ⊥) → digits_or_dash base ≡ encode_lower base
digits_is [] none = absurd (none refl)
digits_is (b ∷ base) none = refl

-- what is read of a statement's line is it
pub said_cut : (said line digits : List ℕ) → line ≡ said_line said → line ≡ codes "said " ++ digits → digits ≡ encode_lower said
said_cut said line digits is splits = append_cancel_left (codes "said ") digits (encode_lower said) (sym splits ∙ is)

pub base_cut : (base line digits : List ℕ) → line ≡ base_line base → line ≡ codes "base " ++ digits → digits ≡ digits_or_dash base
base_cut base line digits is splits = append_cancel_left (codes "base ") digits (digits_or_dash base) (sym splits ∙ is)

-- ---- the line of a slot

abbrev pub slot_text : ℕ → List ℕ → List ℕ
slot_text slot value = decimal slot ++ 32 ∷ encode_lower value

pub slot_is_line : (slot : ℕ) (value : List ℕ) → slot < 2 ^ 64 → IsBytes value → Without 10 (slot_text slot value)
slot_is_line slot value small are =
    without_both 10 (decimal slot) (32 ∷ encode_lower value) (number_without 10 (omega arith) slot small) ((λ e. absurd (omega (arith, e))), bytes_without 10 (omega arith) value are)

pub slot_word : (slot : ℕ) → slot < 2 ^ 64 → Without 32 (decimal slot)
slot_word slot small = number_without 32 (omega arith) slot small

pub slot_front : (slot : ℕ) (value rest : List ℕ) → ended (slot_text slot value) ++ rest ≡ decimal slot ++ 32 ∷ (encode_lower value ++ 10 ∷ rest)
slot_front slot value rest = line_front (slot_text slot value) rest ∙ append_assoc (decimal slot) (32 ∷ encode_lower value) (10 ∷ rest)

-- ---- what is read above the sum

pub drop_thrice : (a b n m : ℕ) (bytes first second : List ℕ) → first ≡ drop a bytes → second ≡ drop b first → m ≡ a + b + n → drop m bytes ≡ drop n second
drop_thrice a b n m bytes first second is so sum =
    ap (λ (k : ℕ). drop k bytes) sum ∙ sym (drop-drop n (a + b) bytes) ∙ ap (drop n) (sym (drop-drop b a bytes) ∙ ap (drop b) (sym is) ∙ sym so)

pub above_whole : (h : HeadView) (bytes first second third : List ℕ) (n : ℕ) → bytes ≡ ended (first_line h.line) ++ first → first ≡ ended (base_line h.base) ++ second → second ≡ said_lines h.said ++ third → drop n bytes ≡ third → bytes ≡ above h ++ drop n bytes
above_whole h bytes first second third n is so also left =
    is ∙ ap (λ (l : List ℕ). ended (first_line h.line) ++ l) (so ∙ ap (λ (l : List ℕ). ended (base_line h.base) ++ l) also)
    ∙ sym (above_front h third) ∙ ap (λ (l : List ℕ). above h ++ l) (sym left)

pub sizes : (a b c : ℕ) (bytes first second : List ℕ) → first ≡ drop a bytes → second ≡ drop b first → a ≤ length bytes → b ≤ length first → c ≤ length second → a + b + c ≤ length bytes
sizes a b c bytes first second is so la lb lc =
    omega (arith, la, lb, lc, ap length is ∙ length-drop a bytes, ap length so ∙ length-drop b first)

-- what is above the sum
pub above_taken : (h : HeadView) (bytes : List ℕ) (size : ℕ) → bytes ≡ above h ++ drop size bytes → size ≤ length bytes → take size bytes ≡ above h
above_taken h bytes size splits fits =
    let long : length bytes ≡ length (above h) + length (drop size bytes) = ap length splits ∙ length-append (above h) (drop size bytes) in
    ap (take size) splits ∙ take_at (above h) (drop size bytes) size (omega (arith, long, length-drop size bytes, fits))

-- the whole head, once its sum is there
pub head_whole : (h : HeadView) (bytes lines rest sum : List ℕ) (size m : ℕ) → bytes ≡ above h ++ drop size bytes → lines ≡ take size bytes → rest ≡ drop size bytes → size ≤ length bytes → sum ≡ ended (sum_line lines) → rest ≡ sum ++ drop (length sum) rest → m ≡ size + length sum → bytes ≡ head_bytes h ++ drop m bytes
head_whole h bytes lines rest sum size m splits is so fits summed there long =
    let front : lines ≡ above h = is ∙ above_taken h bytes size splits fits in
    let left : drop m bytes ≡ drop (length sum) rest = ap (λ (k : ℕ). drop k bytes) long ∙ sym (drop-drop (length sum) size bytes) ∙ ap (drop (length sum)) (sym so) in
    splits ∙ ap (λ (l : List ℕ). above h ++ l) (sym so ∙ there ∙ ap (λ (l : List ℕ). l ++ drop (length sum) rest) (summed ∙ ap (λ (l : List ℕ). ended (sum_line l)) front))
    ∙ sym (append_assoc (above h) (ended (sum_line (above h))) (drop (length sum) rest)) ∙ ap (λ (l : List ℕ). head_bytes h ++ l) (sym left)

-- ---- what a refusal says of a head

pub only_memory : (fault : HeadFault) → ((n : ℕ) → fault ≡ Line n → ⊥) → fault ≡ NoMemory
only_memory (Line n) none = absurd (none n refl)
only_memory NoMemory none = refl

-- no line of a head is refused above its sum
pub none_refused : (h : HeadView) (bytes tail : List ℕ) (n : ℕ) → IsHead h → bytes ≡ head_bytes h ++ tail → ((n ≡ 1) × HasNoFirst bytes) ⊎ ((n ≡ 2) × HasNoBase bytes) → ⊥
none_refused h bytes tail n fits is (inl first) = has_first h bytes tail fits is first.1
none_refused h bytes tail n fits is (inr base) = has_base h bytes tail fits is base.1

-- nor its sum
pub sum_there : (h got : HeadView) (bytes tail lines rest sum : List ℕ) (size : ℕ) → IsHead h → IsHead got → NoSaid (drop size bytes) → bytes ≡ head_bytes h ++ tail → bytes ≡ above got ++ drop size bytes → size ≤ length bytes
    → lines ≡ take size bytes → rest ≡ drop size bytes → sum ≡ ended (sum_line lines) → (got ≡ h) × (rest ≡ sum ++ tail)
sum_there h got bytes tail lines rest sum size hh hg none is splits fits front back summed =
    let same = read_above h got bytes tail (drop size bytes) hh hg none is splits in
    let lines_are : lines ≡ above h = front ∙ above_taken got bytes size splits fits ∙ ap above same.0 in
    (same.0, back ∙ same.1 ∙ ap (λ (l : List ℕ). l ++ tail) (ap (λ (l : List ℕ). ended (sum_line l)) (sym lines_are) ∙ sym summed))

pub left_behind : (bytes rest sum tail : List ℕ) (size m : ℕ) → rest ≡ drop size bytes → rest ≡ sum ++ tail → m ≡ size + length sum → drop m bytes ≡ tail
left_behind bytes rest sum tail size m back there long =
    ap (λ (k : ℕ). drop k bytes) long ∙ sym (drop-drop (length sum) size bytes) ∙ ap (drop (length sum)) (sym back ∙ there) ∙ drop_at sum tail (length sum) refl

pub no_sum_there : (got : HeadView) (bytes lines rest sum : List ℕ) (size n : ℕ) → IsHead got → n ≡ 3 + length got.said → NoSaid (drop size bytes) → bytes ≡ above got ++ drop size bytes → size ≤ length bytes
    → lines ≡ take size bytes → rest ≡ drop size bytes → sum ≡ ended (sum_line lines) → ¬ (StartsWith sum rest) → HasNoSum n bytes
no_sum_there got bytes lines rest sum size n fits count none splits within front back summed apart =
    let lines_are : lines ≡ above got = front ∙ above_taken got bytes size splits within in
    record {
      head = got;
      rest = rest;
      fits = fits;
      count = count;
      splits = splits ∙ ap (λ (l : List ℕ). above got ++ l) (sym back);
      no_said = λ said are. subst (NotAtFront (ended (said_line said))) (sym back) (none said are);
      no_sum = λ more e. apart (more, e ∙ ap (λ (l : List ℕ). l ++ more) (ap (λ (l : List ℕ). ended (sum_line l)) (sym lines_are) ∙ sym summed));
    }

-- the lines, written one behind the other
pub head_made : (h : HeadView) (first base said sum whole : List ℕ) → first ≡ ended (first_line h.line) → base ≡ first ++ ended (base_line h.base) → said ≡ base ++ said_lines h.said → sum ≡ ended (sum_line said) → whole ≡ said ++ sum → whole ≡ head_bytes h
head_made h first base said sum whole a b c d e =
    let lines : said ≡ above h =
    c ∙ ap (λ (l : List ℕ). l ++ said_lines h.said) (b ∙ ap (λ (l : List ℕ). l ++ ended (base_line h.base)) a)
    ∙ append_assoc (ended (first_line h.line)) (ended (base_line h.base)) (said_lines h.said) in
    e ∙ ap (λ (l : List ℕ). l ++ sum) lines ∙ ap (λ (l : List ℕ). above h ++ l) (d ∙ ap (λ (l : List ℕ). ended (sum_line l)) lines)
