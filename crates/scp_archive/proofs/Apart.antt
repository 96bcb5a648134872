-- No record begins another, and bytes are one list of records.
use Rattle.std.proofs.Common.{◌≡◌, ℕ, ◌+◌, ◌-◌, ◌^◌, ◌<◌, ◌≤◌, Bool, true, false, cond, List, [], ◌∷◌, ◌++◌, length, refl, sym, ap, ◌∙◌, append_assoc, append-nil, arith}
use Rattle.std.specs.Prelude.{flat_map}
use Rattle.std.specs.List.{AllByRecursion}
use Rattle.std.proofs.lemmas.List.{length-append}
use Rattle.std.proofs.lemmas.List.Concat.{flat_map-append}
use Rattle.scp_quorum.specs.scp_xdr.specs.Kind.{uint32, word}
use Rattle.scp_quorum.specs.scp_xdr.proofs.Laws.{apart}
use Rattle.scp_quorum.specs.scp_xdr.proofs.Lengths.{word_len}
use Rattle.scp_archive.specs.Stream.{Framed, IsFramed, mark, framed, IsStream, HasNoRecord}

-- ---- marks

-- the number of a mark
abbrev pub mark_number : Bool → ℕ → ℕ
mark_number is_last n = cond is_last (2 ^ 31 + n) n

pub mark_number_fits : (b : Bool) (n : ℕ) → n < 2 ^ 31 → mark_number b n < 2 ^ 32
mark_number_fits true n lt = omega arith
mark_number_fits false n lt = omega arith

pub same_mark : (b c : Bool) (n m : ℕ) → n < 2 ^ 31 → m < 2 ^ 31 → mark_number b n ≡ mark_number c m → (b ≡ c) × (n ≡ m)
same_mark true true n m p q e = (refl, omega arith)
same_mark true false n m p q e = absurd (omega arith)
same_mark false true n m p q e = absurd (omega arith)
same_mark false false n m p q e = (refl, e)

-- ---- lists of one length

pub split_at_length : (a b x y : List ℕ) → length a ≡ length b → a ++ x ≡ b ++ y → (a ≡ b) × (x ≡ y)
split_at_length [] [] x y len e = (refl, e)
split_at_length [] (b ∷ bs) x y len e = absurd (omega arith)
split_at_length (a ∷ us) [] x y len e = absurd (omega arith)
split_at_length (a ∷ us) (b ∷ bs) x y len e =
    let heads : a ≡ b = cc in
    let tails : us ++ x ≡ bs ++ y = cc in
    let rest = split_at_length us bs x y (omega arith) tails in
    (ap (λ (h : ℕ). h ∷ us) heads ∙ ap (λ (t : List ℕ). b ∷ t) rest.0, rest.1)

framed_is : (r s : Framed) → r.is_last ≡ s.is_last → r.body ≡ s.body → r ≡ s
framed_is r s p q =
    let one : r ≡ record { is_last = s.is_last; body = r.body } = ap (λ (b : Bool). let x : Framed = record { is_last = b; body = r.body } in x) p in
    one ∙ ap (λ (l : List ℕ). let x : Framed = record { is_last = s.is_last; body = l } in x) q

-- the marks of two records that begin the same bytes, and what follows the marks
pub after_marks : (n m : ℕ) (x y : List ℕ) → n < 2 ^ 32 → m < 2 ^ 32 → word n ++ x ≡ word m ++ y → (n ≡ m) × (x ≡ y)
after_marks n m x y p q e = apart uint32 n m x y p q e

pub records_apart : (r s : Framed) (x y : List ℕ) → IsFramed r → IsFramed s → framed r ++ x ≡ framed s ++ y → (r ≡ s) × (x ≡ y)
records_apart r s x y p q e =
    let n = mark_number r.is_last (length r.body) in
    let m = mark_number s.is_last (length s.body) in
    let moved : word n ++ (r.body ++ x) ≡ word m ++ (s.body ++ y) = sym (append_assoc (word n) r.body x) ∙ e ∙ append_assoc (word m) s.body y in
    let marks = after_marks n m (r.body ++ x) (s.body ++ y) (mark_number_fits r.is_last (length r.body) p) (mark_number_fits s.is_last (length s.body) q) moved in
    let said = same_mark r.is_last s.is_last (length r.body) (length s.body) p q marks.0 in
    let bodies = split_at_length r.body s.body x y said.1 marks.1 in
    (framed_is r s said.0 bodies.0, bodies.1)

-- a record has a mark at least
pub framed_long : (r : Framed) (x : List ℕ) → 4 ≤ length (framed r ++ x)
framed_long r x = omega (arith, length-append (framed r) x, length-append (mark r.is_last (length r.body)) r.body, word_len (mark_number r.is_last (length r.body)))

pub nothing_has_no_record : HasNoRecord []
nothing_has_no_record r rest p e = omega (arith, framed_long r rest, ap length e)

-- ---- streams

all_of_both : (rs ss : List Framed) → AllByRecursion IsFramed rs → AllByRecursion IsFramed ss → AllByRecursion IsFramed (rs ++ ss)
all_of_both [] ss p q = q
all_of_both (r ∷ rs) ss p q = (p.0, all_of_both rs ss p.1 q)

-- the first record of a stream, and what follows it
unrolled : (r : Framed) (rs : List Framed) (x : List ℕ) → flat_map framed (r ∷ rs) ++ x ≡ framed r ++ (flat_map framed rs ++ x)
unrolled r rs x = append_assoc (framed r) (flat_map framed rs) x

pub one_list : (rs ss : List Framed) (x y : List ℕ) → AllByRecursion IsFramed rs → AllByRecursion IsFramed ss → flat_map framed rs ++ x ≡ flat_map framed ss ++ y → HasNoRecord x → HasNoRecord y → (rs ≡ ss) × (x ≡ y)
one_list [] [] x y p q e hx hy = (refl, e)
one_list [] (s ∷ ss) x y p q e hx hy = absurd (hx s (flat_map framed ss ++ y) q.0 (e ∙ unrolled s ss y))
one_list (r ∷ rs) [] x y p q e hx hy = absurd (hy r (flat_map framed rs ++ x) p.0 (sym e ∙ unrolled r rs x))
one_list (r ∷ rs) (s ∷ ss) x y p q e hx hy =
    let firsts = records_apart r s (flat_map framed rs ++ x) (flat_map framed ss ++ y) p.0 q.0 (sym (unrolled r rs x) ∙ e ∙ unrolled s ss y) in
    let rest = one_list rs ss x y p.1 q.1 firsts.1 hx hy in
    (ap (λ (h : Framed). h ∷ rs) firsts.0 ∙ ap (λ (t : List Framed). s ∷ t) rest.0, rest.1)

pub stream_one_list : (bytes : List ℕ) (rs ss : List Framed) (x y : List ℕ) → IsStream bytes rs x → IsStream bytes ss y → HasNoRecord x → HasNoRecord y → (rs ≡ ss) × (x ≡ y)
stream_one_list bytes rs ss x y p q hx hy = one_list rs ss x y p.in_range q.in_range (sym p.split ∙ q.split) hx hy

pub stream_begins : (bytes : List ℕ) → IsStream bytes [] bytes
stream_begins bytes = record { in_range = tt; split = refl }

pub stream_grows : (bytes : List ℕ) (rs : List Framed) (r : Framed) (left : List ℕ) → IsStream bytes rs (framed r ++ left) → IsFramed r → IsStream bytes (rs ++ r ∷ []) left
stream_grows bytes rs r left p fits = record {
  in_range = all_of_both rs (r ∷ []) p.in_range (fits, tt);
  split = p.split ∙ sym (append_assoc (flat_map framed rs) (framed r) left) ∙ ap (λ (l : List ℕ). l ++ left) (sym (flat_map-append framed rs (r ∷ []) ∙ ap (λ (l : List ℕ). flat_map framed rs ++ l) (append-nil (framed r))));
}
