-- The bytes of entries.
use Rattle.std.proofs.Common.{◌≡◌, ◌≤◌, ◌+◌, ◌==◌, ℕ, Bool, true, false, List, [], ◌∷◌, ◌++◌, length, take, drop, codes, Ok, refl, sym, ◌∙◌, ap, subst, arith, append_assoc, length-append}
use Rattle.std.proofs.lemmas.List.{append_cancel_left, drop_at, take_at, length-take}
use Rattle.std.specs.List.{AllByRecursion}
use Rattle.hex.specs.Hex.{encode_lower, lower_digits, decode_of}
use Rattle.hex.proofs.HexLemmas.{length-encode_with, decode_of-encode_lower}
use Rattle.scp_live_log.specs.Log.{EntryView, Marked, IsLine, IsDigest, IsEntry, AreEntries, HasNoEntry, mark_of, chained, spelled_entry, spelled, last_digest, marked_from, entries_of}
use Rattle.scp_live_log.specs.Disk.{StartsWith}
use Rattle.scp_live_log.specs.inside.Front.{EndsAt}
use Rattle.scp_live_log.proofs.Lines.{lines_apart, ended}

pub length-digits : (h : List ℕ) → length h ≡ 32 → length (encode_lower h) ≡ 64
length-digits h is = omega (arith, length-encode_with lower_digits h)

-- digits tell the digest
pub digits_apart : (a b : List ℕ) → IsDigest a → IsDigest b → encode_lower a ≡ encode_lower b → a ≡ b
digits_apart a b da db e =
    let both : Ok a ≡ decode_of (encode_lower b) = sym (decode_of-encode_lower a da.bytes) ∙ ap decode_of e in
    let same : Ok a ≡ Ok b = both ∙ decode_of-encode_lower b db.bytes in
    cc

-- two texts of one length in front of others
pub fronts_apart : (a b x y : List ℕ) → length a ≡ length b → a ++ x ≡ b ++ y → (a ≡ b) × (x ≡ y)
fronts_apart a b x y same e =
    let front : a ≡ b = sym (take_at a x (length a) refl) ∙ ap (take (length a)) e ∙ take_at b y (length a) (sym same) in
    let back : x ≡ y = sym (drop_at a x (length a) refl) ∙ ap (drop (length a)) e ∙ drop_at b y (length a) (sym same) in
    (front, back)

marks_apart : (p q : Bool) → mark_of p ≡ mark_of q → p ≡ q
marks_apart true true e = refl
marks_apart false false e = refl
marks_apart true false e = absurd (omega (arith, e))
marks_apart false true e = absurd (omega (arith, e))

same_entry : (a b : EntryView) → a.line ≡ b.line → a.sent ≡ b.sent → a ≡ b
same_entry a b l k = ap (λ (x : List ℕ). let r : EntryView = record { line = x; sent = a.sent } in r) l ∙ ap (λ (x : List ℕ). let r : EntryView = record { line = b.line; sent = x } in r) k

pub mark_told : (mark : ℕ) (p : Bool) → mark ≡ mark_of p → (mark == 43) ≡ p
mark_told mark true is = ap (λ (k : ℕ). k == 43) is
mark_told mark false is = ap (λ (k : ℕ). k == 43) is

-- what stands behind the line's end of an entry
abbrev pub behind : List ℕ → List ℕ → List ℕ → List ℕ
behind sent digest rest = codes "= " ++ (sent ++ 32 ∷ (digest ++ 10 ∷ rest))

pub spelled_parts : (before : List ℕ) (p : Bool) (e : EntryView) (rest : List ℕ) → spelled_entry before p e ++ rest ≡ mark_of p ∷ (e.line ++ 10 ∷ behind (encode_lower e.sent) (encode_lower (chained before e)) rest)
spelled_parts before p e rest = ap (λ (l : List ℕ). mark_of p ∷ l) (pieces e.line (encode_lower e.sent) (encode_lower (chained before e)) rest)
  where
    pieces : (line s d rest : List ℕ) → ((line ++ 10 ∷ []) ++ (codes "= " ++ (s ++ 32 ∷ (d ++ 10 ∷ [])))) ++ rest ≡ line ++ 10 ∷ behind s d rest
    pieces line s d rest = simp append_assoc

-- the digits of what was sent stand at a place
pub sent_at : (s d rest : List ℕ) → length s ≡ 64 → take 64 (drop 3 (10 ∷ behind s d rest)) ≡ s
sent_at s d rest ls = take_at s (32 ∷ (d ++ 10 ∷ rest)) 64 ls

-- such an end has 67 bytes at least
pub long_enough : (s d rest : List ℕ) → length s ≡ 64 → 67 ≤ length (10 ∷ behind s d rest)
long_enough s d rest ls = omega (arith, ls, length-append s (32 ∷ (d ++ 10 ∷ rest)))

-- the parts of the entry at the front of some bytes, by where its line ends
pub entry_parts : (bytes rest : List ℕ) (mark n : ℕ) (before : List ℕ) (p : Bool) (e : EntryView) (tail : List ℕ) → bytes ≡ mark ∷ rest → EndsAt n rest → IsEntry e → bytes ≡ spelled_entry before p e ++ tail
    → (mark ≡ mark_of p) × (take n rest ≡ e.line) × (drop n rest ≡ 10 ∷ behind (encode_lower e.sent) (encode_lower (chained before e)) tail)
entry_parts bytes rest mark n before p e tail is ends ie same =
    let end = behind (encode_lower e.sent) (encode_lower (chained before e)) tail in
    let whole : mark ∷ rest ≡ mark_of p ∷ (e.line ++ 10 ∷ end) = sym is ∙ same ∙ spelled_parts before p e tail in
    let head : mark ≡ mark_of p = cc whole in
    let texts : rest ≡ e.line ++ 10 ∷ end = cc whole in
    let apart = lines_apart (take n rest) e.line (drop (n + 1) rest) end ends.line ie.line (sym ends.splits ∙ texts) in
    let back : drop n rest ≡ 10 ∷ drop (n + 1) rest = ap (drop n) ends.splits ∙ drop_at (take n rest) (10 ∷ drop (n + 1) rest) n (omega (arith, length-take n rest, ends.within)) in
    (head, apart.0, back ∙ ap (λ (l : List ℕ). 10 ∷ l) apart.1)

-- an entry at the front of some bytes has a line's end
pub entry_ends : (bytes rest : List ℕ) (mark : ℕ) (before : List ℕ) (p : Bool) (e : EntryView) (tail : List ℕ) → bytes ≡ mark ∷ rest → bytes ≡ spelled_entry before p e ++ tail → IsLine rest → ⊥
entry_ends bytes rest mark before p e tail is same line =
    let end = behind (encode_lower e.sent) (encode_lower (chained before e)) tail in
    let whole : mark ∷ rest ≡ mark_of p ∷ (e.line ++ 10 ∷ end) = sym is ∙ same ∙ spelled_parts before p e tail in
    let texts : rest ≡ e.line ++ 10 ∷ end = cc whole in
    ended e.line end (subst IsLine texts line)

-- bytes that don't begin with an entry's have it not at their front
pub not_here : (bytes text before : List ℕ) (q p : Bool) (f e : EntryView) (tail : List ℕ) → text ≡ spelled_entry before q f → (StartsWith text bytes → ⊥) → q ≡ p → f.line ≡ e.line → f.sent ≡ e.sent → bytes ≡ spelled_entry before p e ++ tail → ⊥
not_here bytes text before q p f e tail is none marks lines sents same =
    let entries : f ≡ e = same_entry f e lines sents in
    let texts : text ≡ spelled_entry before p e = is ∙ ap (λ (b : Bool). spelled_entry before b f) marks ∙ ap (λ (x : EntryView). spelled_entry before p x) entries in
    none (tail, same ∙ ap (λ (l : List ℕ). l ++ tail) (sym texts))

-- An entry at the front of bytes is one of them alone.
pub entries_apart : (before : List ℕ) (p q : Bool) (e f : EntryView) (x y : List ℕ) → IsEntry e → IsEntry f → spelled_entry before p e ++ x ≡ spelled_entry before q f ++ y → (p ≡ q) × (e ≡ f) × (x ≡ y)
entries_apart before p q e f x y ie jf same =
    let d = encode_lower (chained before e) in
    let g = encode_lower (chained before f) in
    let s = encode_lower e.sent in
    let t = encode_lower f.sent in
    let parts : mark_of p ∷ (e.line ++ 10 ∷ behind s d x) ≡ mark_of q ∷ (f.line ++ 10 ∷ behind t g y) = sym (spelled_parts before p e x) ∙ same ∙ spelled_parts before q f y in
    let mark : mark_of p ≡ mark_of q = cc parts in
    let texts : e.line ++ 10 ∷ behind s d x ≡ f.line ++ 10 ∷ behind t g y = cc parts in
    let line = lines_apart e.line f.line (behind s d x) (behind t g y) ie.line jf.line texts in
    let rest : s ++ 32 ∷ (d ++ 10 ∷ x) ≡ t ++ 32 ∷ (g ++ 10 ∷ y) = append_cancel_left (codes "= ") _ _ line.1 in
    let sents_at = fronts_apart s t (32 ∷ (d ++ 10 ∷ x)) (32 ∷ (g ++ 10 ∷ y)) (length-digits e.sent ie.sent.size ∙ sym (length-digits f.sent jf.sent.size)) rest in
    let sents : e.sent ≡ f.sent = digits_apart e.sent f.sent ie.sent jf.sent sents_at.0 in
    let entries : e ≡ f = same_entry e f line.0 sents in
    let digests : d ≡ g = ap (λ (r : EntryView). encode_lower (chained before r)) entries in
    let second : d ++ 10 ∷ x ≡ g ++ 10 ∷ y = cc (sents_at.1) in
    let third = fronts_apart d g (10 ∷ x) (10 ∷ y) (ap length digests) second in
    let ends : x ≡ y = cc (third.1) in
    (marks_apart p q mark, entries, ends)

-- some entries and others behind them
pub spelled-append : (before : List ℕ) (ms ns : List Marked) → spelled before (ms ++ ns) ≡ spelled before ms ++ spelled (last_digest before ms) ns
spelled-append before [] ns = refl
spelled-append before (m ∷ ms) ns =
    ap (λ (l : List ℕ). spelled_entry before m.begins m.entry ++ l) (spelled-append (chained before m.entry) ms ns)
    ∙ sym (append_assoc (spelled_entry before m.begins m.entry) (spelled (chained before m.entry) ms) (spelled (last_digest (chained before m.entry) ms) ns))

pub last_digest-append : (before : List ℕ) (ms ns : List Marked) → last_digest before (ms ++ ns) ≡ last_digest (last_digest before ms) ns
last_digest-append before [] ns = refl
last_digest-append before (m ∷ ms) ns = last_digest-append (chained before m.entry) ms ns

pub are_both : (ms ns : List Marked) → AreEntries ms → AreEntries ns → AreEntries (ms ++ ns)
are_both [] ns h k = k
are_both (m ∷ ms) ns h k = (h.0, are_both ms ns h.1 k)

pub are_marked : (b : Bool) (es : List EntryView) → AllByRecursion IsEntry es → AreEntries (marked_from b es)
are_marked b [] h = tt
are_marked b (e ∷ es) h = (h.0, are_marked false es h.1)

pub batch_entries : (b : Bool) (es : List EntryView) → entries_of (marked_from b es) ≡ es
batch_entries b [] = refl
batch_entries b (e ∷ es) = ap (λ (l : List EntryView). e ∷ l) (batch_entries false es)

-- Where a text is the bytes of some entries and more, what is found at its front, as far as entries stand there, is these entries, and maybe more.
pub got_all : (before : List ℕ) (ms got : List Marked) (rest tail : List ℕ) → AreEntries ms → AreEntries got → HasNoEntry (last_digest before got) tail → spelled before ms ++ rest ≡ spelled before got ++ tail
    → (more : List Marked) × (got ≡ ms ++ more) × (rest ≡ spelled (last_digest before ms) more ++ tail)
got_all before [] got rest tail h k none e = (got, refl, e)
got_all before (m ∷ ms) [] rest tail h k none e =
    absurd (none m.begins m.entry (spelled (chained before m.entry) ms ++ rest) h.0 (sym e ∙ append_assoc (spelled_entry before m.begins m.entry) (spelled (chained before m.entry) ms) rest))
got_all before (m ∷ ms) (n ∷ got) rest tail h k none e =
    let left = append_assoc (spelled_entry before m.begins m.entry) (spelled (chained before m.entry) ms) rest in
    let right = append_assoc (spelled_entry before n.begins n.entry) (spelled (chained before n.entry) got) tail in
    let apart = entries_apart before m.begins n.begins m.entry n.entry _ _ h.0 k.0 (sym left ∙ e ∙ right) in
    let same : m ≡ n = same_marked m n apart.0 apart.1 in
    let rests : spelled (chained before m.entry) ms ++ rest ≡ spelled (chained before m.entry) got ++ tail =
    apart.2 ∙ ap (λ (x : EntryView). spelled (chained before x) got ++ tail) (sym apart.1) in
    let no : HasNoEntry (last_digest (chained before m.entry) got) tail = subst (λ (x : EntryView). HasNoEntry (last_digest (chained before x) got) tail) (sym apart.1) none in
    let rec = got_all (chained before m.entry) ms got rest tail h.1 k.1 no rests in
    (rec.0, ap (λ (x : Marked). x ∷ got) (sym same) ∙ ap (λ (l : List Marked). m ∷ l) rec.1, rec.2)
  where
    same_marked : (a b : Marked) → a.begins ≡ b.begins → a.entry ≡ b.entry → a ≡ b
    same_marked a b l k = ap (λ (x : Bool). let r : Marked = record { begins = x; entry = a.entry } in r) l ∙ ap (λ (x : EntryView). let r : Marked = record { begins = b.begins; entry = x } in r) k

-- bytes of entries aren't none
pub spelled_some : (before : List ℕ) (ms : List Marked) (tail : List ℕ) → [] ≡ spelled before ms ++ tail → ms ≡ []
spelled_some before [] tail e = refl
spelled_some before (m ∷ ms) tail e = absurd (let k : [] ≡ mark_of m.begins ∷ ((((m.entry.line ++ 10 ∷ []) ++ (codes "= " ++ (encode_lower m.entry.sent ++ 32 ∷ (encode_lower (chained before m.entry) ++ 10 ∷ [])))) ++ spelled (chained before m.entry) ms) ++ tail) = e in cc)
