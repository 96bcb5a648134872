-- What is read from the front is what was written there, for each part of a value.
use Rattle.std.proofs.Common.{◌≡◌, ℕ, zero, suc, ◌+◌, ◌^◌, ◌<◌, ◌≤◌, Bool, true, false, cond, ltb, eqb, not, List, [], ◌∷◌, ◌++◌, length, get_or, take, drop, Option, Some, None, Result, Ok, Err, refl, sym, ap, subst, ◌∙◌, append_assoc, arith, inl, inr}
use Rattle.std.specs.Prelude.{replicate}
use Rattle.std.specs.Int.{Width, w32, w64, byte_len, from_be_bytes, to_be_bytes}
use Rattle.std.specs.List.{prefix_len}
use lib.Dec.{eqb-suc-zero}
use Rattle.std.proofs.lemmas.Bool.{cases_lt, ltb-false, le-ltb, ne_eqb}
use Rattle.std.proofs.lemmas.List.{take_at, drop_at, take-append-drop, length-append, length-take, length-replicate, get_or-drop, get_or-take, get_or_past}
use Rattle.std.proofs.lemmas.Nat.{be_bytes_4, be_bytes_8, from_be_bytes-to_be_bytes_4, from_be_bytes-to_be_bytes_8}
use Rattle.scp_types.specs.declared.fault.Fault.{Fault}
use Rattle.scp_types.specs.declared.fault.Fault.TheVariants.{Malformed, TooLong}
use Rattle.scp_xdr.specs.Kind.{padding_len, padded, word, long_word}
use Rattle.scp_xdr.specs.Reading.{Cursor, skip, Read, ◌>>=◌, read_uint32, read_uint64, first_nonzero, unless_nonzero, read_padded, read_bytes, read_count, read_opaque, run_of, read_run, flag_of, read_flag}

-- ---- steps that did not fail

pub bind_ok : {A B : Type 0} (r : Result A Fault) (f : A → Result B Fault) (y : B) → (r >>= f) ≡ Ok y → (x : A) × (r ≡ Ok x) × (f x ≡ Ok y)
bind_ok (Ok x) f y e = (x, refl, e)
bind_ok (Err d) f y e = absurd cc

pub guard_ok : {A : Type 0} (b : Bool) (d : Fault) (r : Result A Fault) (y : A) → cond b (Err d) r ≡ Ok y → (b ≡ false) × (r ≡ Ok y)
guard_ok true d r y e = absurd cc
guard_ok false d r y e = (refl, e)

abbrev done : {A : Type 0} → A → Result A Fault
done x = Ok x

pub ok_is : {A : Type 0} (x y : A) → done x ≡ done y → x ≡ y
ok_is x y e = cc

-- ---- bytes

abbrev pub IsBytes : List ℕ → Type 0
IsBytes bytes = (i : ℕ) → get_or bytes i 0 < 256

IsBytes-drop : (n : ℕ) (bytes : List ℕ) → IsBytes bytes → IsBytes (drop n bytes)
IsBytes-drop n bytes h i = rw get_or-drop (h (n + i))

IsBytes-take : (n : ℕ) (bytes : List ℕ) → IsBytes bytes → IsBytes (take n bytes)
IsBytes-take n bytes h i =
    elim (cases_lt i n) [
      | inl lt ↦ rw (get_or-take n bytes i 0 lt) (h i)
      | inr le ↦ rw (get_or_past (take n bytes) i 0 (omega (arith, length-take n bytes))) (omega arith)
    ]

-- ---- from one place to another

-- the text lies between c and d
pub record Takes (c : Cursor) (text : List ℕ) (d : Cursor) : Type 0 where
  pub parts : c.rest ≡ text ++ d.rest
  pub place : d.place ≡ c.place + length text

pub Takes-join : (c : Cursor) (x : List ℕ) (d : Cursor) (y : List ℕ) (e : Cursor) → Takes c x d → Takes d y e → Takes c (x ++ y) e
Takes-join c x d y e p q = record {
  parts = p.parts ∙ ap (λ (t : List ℕ). x ++ t) q.parts ∙ sym (append_assoc x y e.rest);
  place = omega (arith, p.place, q.place, length-append x y);
}

abbrev pub between : Cursor → List ℕ → List ℕ → Cursor → Cursor
between c x y e = record { place = c.place + length x; rest = y ++ e.rest }

pub Takes-first : (c : Cursor) (x y : List ℕ) (e : Cursor) → Takes c (x ++ y) e → Takes c x (between c x y e)
Takes-first c x y e p = record { parts = p.parts ∙ append_assoc x y e.rest; place = refl }

pub Takes-second : (c : Cursor) (x y : List ℕ) (e : Cursor) → Takes c (x ++ y) e → Takes (between c x y e) y e
Takes-second c x y e p = record { parts = refl; place = omega (arith, p.place, length-append x y) }

pub Takes-bytes : (c : Cursor) (x : List ℕ) (d : Cursor) → Takes c x d → IsBytes c.rest → IsBytes d.rest
Takes-bytes c x d p h = subst IsBytes (drop_at x d.rest (length x) refl) (IsBytes-drop (length x) (x ++ d.rest) (subst IsBytes p.parts h))

pub Takes-skip : (n : ℕ) (c : Cursor) → n ≤ length c.rest → Takes c (take n c.rest) (skip n c)
Takes-skip n c le = record { parts = sym (take-append-drop n c.rest); place = omega (arith, length-take n c.rest) }

pub cursor_is : (c d : Cursor) → c.place ≡ d.place → c.rest ≡ d.rest → c ≡ d
cursor_is c d p q =
    let one : c ≡ record { place = d.place; rest = c.rest } = ap (λ (n : ℕ). let x : Cursor = record { place = n; rest = c.rest } in x) p in
    one ∙ ap (λ (r : List ℕ). let x : Cursor = record { place = d.place; rest = r } in x) q

pub skip_is : (n : ℕ) (c : Cursor) (x : List ℕ) (d : Cursor) → length x ≡ n → Takes c x d → skip n c ≡ d
skip_is n c x d len p = cursor_is (skip n c) d (omega (arith, p.place)) (ap (drop n) p.parts ∙ drop_at x d.rest n len)

pub take_is : (n : ℕ) (c : Cursor) (x : List ℕ) (d : Cursor) → length x ≡ n → Takes c x d → take n c.rest ≡ x
take_is n c x d len p = ap (take n) p.parts ∙ take_at x d.rest n len

-- ---- numbers

pub record IsWide (w : Width) (limit : ℕ) : Type 0 where
  pub len : (n : ℕ) → length (to_be_bytes w n) ≡ byte_len w
  pub back : (bytes : List ℕ) → length bytes ≡ byte_len w → IsBytes bytes → to_be_bytes w (from_be_bytes w bytes) ≡ bytes
  pub again : (n : ℕ) → n < limit → from_be_bytes w (to_be_bytes w n) ≡ n
  pub below : (bytes : List ℕ) → IsBytes bytes → from_be_bytes w bytes < limit

wide32 : IsWide w32 (2 ^ 32)
wide32 = record {
  len = λ n. refl;
  back = λ bytes len fits. be_bytes_4 bytes _ len fits refl;
  again = λ n lt. from_be_bytes-to_be_bytes_4 n lt;
  below = λ bytes fits. omega (arith, fits 0, fits 1, fits 2, fits 3);
}

wide64 : IsWide w64 (2 ^ 64)
wide64 = record {
  len = λ n. refl;
  back = λ bytes len fits. be_bytes_8 bytes _ len fits refl;
  again = λ n lt. from_be_bytes-to_be_bytes_8 n lt;
  below = λ bytes fits. omega (arith, fits 0, fits 1, fits 2, fits 3, fits 4, fits 5, fits 6, fits 7);
}

abbrev number_at : Width → Cursor → Read ℕ
number_at w c = cond (ltb (length c.rest) (byte_len w)) (Err (Malformed c.place)) (Ok (from_be_bytes w (take (byte_len w) c.rest), skip (byte_len w) c))

number_takes : (w : Width) (limit : ℕ) (wide : IsWide w limit) (c : Cursor) (n : ℕ) (d : Cursor) → IsBytes c.rest → number_at w c ≡ Ok (n, d) → Takes c (to_be_bytes w n) d × (n < limit)
number_takes w limit wide c n d fits e =
    let g = guard_ok (ltb (length c.rest) (byte_len w)) (Malformed c.place) (Ok (from_be_bytes w (take (byte_len w) c.rest), skip (byte_len w) c)) (n, d) e in
    let long : byte_len w ≤ length c.rest = ltb-false _ _ g.0 in
    let front = IsBytes-take (byte_len w) c.rest fits in
    let text : to_be_bytes w (from_be_bytes w (take (byte_len w) c.rest)) ≡ take (byte_len w) c.rest = wide.back (take (byte_len w) c.rest) (omega (arith, length-take (byte_len w) c.rest)) front in
    let made : Takes c (to_be_bytes w (from_be_bytes w (take (byte_len w) c.rest))) (skip (byte_len w) c) = subst (λ (t : List ℕ). Takes c t (skip (byte_len w) c)) (sym text) (Takes-skip (byte_len w) c long) in
    subst (λ (x : ℕ × Cursor). Takes c (to_be_bytes w x.0) x.1 × (x.0 < limit)) (ok_is (from_be_bytes w (take (byte_len w) c.rest), skip (byte_len w) c) (n, d) g.1) (made, wide.below (take (byte_len w) c.rest) front)

number_again : (w : Width) (limit : ℕ) (wide : IsWide w limit) (c : Cursor) (n : ℕ) (d : Cursor) → n < limit → Takes c (to_be_bytes w n) d → number_at w c ≡ Ok (n, d)
number_again w limit wide c n d lt p =
    let len = wide.len n in
    let long : ltb (length c.rest) (byte_len w) ≡ false = le-ltb _ _ (omega (arith, ap length p.parts, length-append (to_be_bytes w n) d.rest)) in
    rw (long, take_is (byte_len w) c (to_be_bytes w n) d len p, skip_is (byte_len w) c (to_be_bytes w n) d len p, wide.again n lt) refl

pub uint32_takes : (c : Cursor) (n : ℕ) (d : Cursor) → IsBytes c.rest → read_uint32 c ≡ Ok (n, d) → Takes c (word n) d × (n < 2 ^ 32)
unfolding read_uint32 word
uint32_takes c n d fits e = number_takes w32 (2 ^ 32) wide32 c n d fits e

pub uint32_again : (c : Cursor) (n : ℕ) (d : Cursor) → n < 2 ^ 32 → Takes c (word n) d → read_uint32 c ≡ Ok (n, d)
unfolding read_uint32 word
uint32_again c n d lt p = number_again w32 (2 ^ 32) wide32 c n d lt p

pub uint64_takes : (c : Cursor) (n : ℕ) (d : Cursor) → IsBytes c.rest → read_uint64 c ≡ Ok (n, d) → Takes c (long_word n) d × (n < 2 ^ 64)
unfolding read_uint64 long_word
uint64_takes c n d fits e = number_takes w64 (2 ^ 64) wide64 c n d fits e

pub uint64_again : (c : Cursor) (n : ℕ) (d : Cursor) → n < 2 ^ 64 → Takes c (long_word n) d → read_uint64 c ≡ Ok (n, d)
unfolding read_uint64 long_word
uint64_again c n d lt p = number_again w64 (2 ^ 64) wide64 c n d lt p

-- ---- bytes with padding

abbrev is_zero : ℕ → Bool
is_zero b = not (not (eqb b 0))

zeros_from : (xs : List ℕ) → length xs ≤ prefix_len is_zero xs → xs ≡ replicate (length xs) 0
zeros_from [] h = refl
zeros_from (zero ∷ xs) h = ap (λ (t : List ℕ). 0 ∷ t) (zeros_from xs (omega arith))
zeros_from (suc x ∷ xs) h = let none : length (suc x ∷ xs) ≤ 0 = rw eqb-suc-zero at h in absurd (omega arith)

none_from : (n : ℕ) → prefix_len is_zero (replicate n 0) ≡ n
none_from zero = refl
none_from (suc n) = omega (arith, none_from n)

none_ok : (b : Bool) (n : ℕ) → cond b (Some n) None ≡ None → b ≡ false
none_ok true n e = cc
none_ok false n e = refl

first_nonzero_none : (xs : List ℕ) → first_nonzero xs ≡ None → xs ≡ replicate (length xs) 0
first_nonzero_none xs e = zeros_from xs (ltb-false _ _ (none_ok (ltb (prefix_len is_zero xs) (length xs)) (prefix_len is_zero xs) e))

none_first_nonzero : (n : ℕ) → first_nonzero (replicate n 0) ≡ None
none_first_nonzero n =
    let le : length (replicate {A = ℕ} n 0) ≤ prefix_len is_zero (replicate n 0) = omega (arith, none_from n, length-replicate {A = ℕ} n 0) in
    ap (λ (b : Bool). cond b (Some (prefix_len is_zero (replicate n 0))) None) (le-ltb _ _ le)

nonzero_ok : (o : Option ℕ) (n p : ℕ) (c : Cursor) (y : List ℕ × Cursor) → unless_nonzero o n p c ≡ Ok y → (o ≡ None) × ((take n c.rest, skip p (skip n c)) ≡ y)
nonzero_ok None n p c y e = (refl, ok_is (take n c.rest, skip p (skip n c)) y e)
nonzero_ok (Some i) n p c y e = absurd cc

padded_takes : (n p : ℕ) (c : Cursor) (v : List ℕ) (d : Cursor) → IsBytes c.rest → read_padded n p c ≡ Ok (v, d) → Takes c (v ++ replicate p 0) d × IsBytes v × (length v ≡ n)
padded_takes n p c v d fits e =
    let g = guard_ok (ltb (length c.rest) (n + p)) (Malformed c.place) (unless_nonzero (first_nonzero (take p (drop n c.rest))) n p c) (v, d) e in
    let long : n + p ≤ length c.rest = ltb-false _ _ g.0 in
    let z = nonzero_ok (first_nonzero (take p (drop n c.rest))) n p c (v, d) g.1 in
    let first : Takes c (take n c.rest) (skip n c) = Takes-skip n c (omega (arith, long)) in
    let left : length c.rest ≡ length (take n c.rest) + length (drop n c.rest) = ap length first.parts ∙ length-append (take n c.rest) (drop n c.rest) in
    let more : p ≤ length (drop n c.rest) = omega (arith, left, length-take n c.rest, long) in
    let len : length (take p (drop n c.rest)) ≡ p = omega (arith, length-take p (drop n c.rest), more) in
    let zeros : take p (drop n c.rest) ≡ replicate p 0 = first_nonzero_none (take p (drop n c.rest)) z.0 ∙ ap (λ (k : ℕ). replicate k 0) len in
    let second : Takes (skip n c) (replicate p 0) (skip p (skip n c)) = subst (λ (t : List ℕ). Takes (skip n c) t (skip p (skip n c))) zeros (Takes-skip p (skip n c) more) in
    let whole = Takes-join c (take n c.rest) (skip n c) (replicate p 0) (skip p (skip n c)) first second in
    subst (λ (x : List ℕ × Cursor). Takes c (x.0 ++ replicate p 0) x.1 × IsBytes x.0 × (length x.0 ≡ n)) z.1 (whole, IsBytes-take n c.rest fits, omega (arith, length-take n c.rest, long))

padded_again : (n p : ℕ) (c : Cursor) (v : List ℕ) (d : Cursor) → length v ≡ n → Takes c (v ++ replicate p 0) d → read_padded n p c ≡ Ok (v, d)
padded_again n p c v d len t =
    let m = between c v (replicate p 0) d in
    let first = Takes-first c v (replicate p 0) d t in
    let second = Takes-second c v (replicate p 0) d t in
    let zeros : length (replicate {A = ℕ} p 0) ≡ p = length-replicate p 0 in
    let long : ltb (length c.rest) (n + p) ≡ false = le-ltb _ _ (omega (arith, ap length t.parts, length-append (v ++ replicate p 0) d.rest, length-append v (replicate p 0), zeros)) in
    let on : skip n c ≡ m = skip_is n c v m len first in
    let tail : drop n c.rest ≡ replicate p 0 ++ d.rest = ap (λ (x : Cursor). x.rest) on in
    let pad : take p (drop n c.rest) ≡ replicate p 0 = ap (take p) tail ∙ take_at (replicate p 0) d.rest p zeros in
    let none : first_nonzero (take p (drop n c.rest)) ≡ None = ap first_nonzero pad ∙ none_first_nonzero p in
    let off : skip p (skip n c) ≡ d = ap (skip p) on ∙ skip_is p m (replicate p 0) d zeros second in
    rw (long, none, take_is n c v m len first, off) refl

pub bytes_take : (n : ℕ) (c : Cursor) (v : List ℕ) (d : Cursor) → IsBytes c.rest → read_bytes n c ≡ Ok (v, d) → Takes c (padded v) d × IsBytes v × (length v ≡ n)
unfolding read_bytes padded
bytes_take n c v d fits e =
    let t = padded_takes n (padding_len n) c v d fits e in
    (subst (λ (k : ℕ). Takes c (v ++ replicate (padding_len k) 0) d) (sym t.2) t.0, t.1, t.2)

pub bytes_again : (n : ℕ) (c : Cursor) (v : List ℕ) (d : Cursor) → length v ≡ n → Takes c (padded v) d → read_bytes n c ≡ Ok (v, d)
unfolding read_bytes padded
bytes_again n c v d len t = padded_again n (padding_len n) c v d len (subst (λ (k : ℕ). Takes c (v ++ replicate (padding_len k) 0) d) len t)

-- ---- counts and flags

pub count_takes : (max : ℕ) (c : Cursor) (n : ℕ) (d : Cursor) → IsBytes c.rest → read_count max c ≡ Ok (n, d) → Takes c (word n) d × (n ≤ max) × (n < 2 ^ 32)
unfolding read_count
count_takes max c n d fits e =
    let b = bind_ok (read_uint32 c) (λ n. cond (ltb max n.0) (Err TooLong) (Ok n)) (n, d) e in
    let t = uint32_takes c b.0.0 b.0.1 fits b.1 in
    let g = guard_ok (ltb max b.0.0) TooLong (Ok b.0) (n, d) b.2 in
    let within : b.0.0 ≤ max = ltb-false _ _ g.0 in
    subst (λ (x : ℕ × Cursor). Takes c (word x.0) x.1 × (x.0 ≤ max) × (x.0 < 2 ^ 32)) (ok_is b.0 (n, d) g.1) (t.0, within, t.1)

pub count_again : (max : ℕ) (c : Cursor) (n : ℕ) (d : Cursor) → n ≤ max → n < 2 ^ 32 → Takes c (word n) d → read_count max c ≡ Ok (n, d)
unfolding read_count
count_again max c n d le lt p =
    let within : ltb max n ≡ false = le-ltb _ _ le in
    rw (uint32_again c n d lt p, within) refl

run_ok : (max first_place count_place first n : ℕ) (c : Cursor) (r : ℕ × ℕ) (d : Cursor) → run_of max first_place count_place first n c ≡ Ok (r, d) → (0 < n) × (n ≤ max) × (first + n ≤ 2 ^ 64) × ((first, n) ≡ r) × (c ≡ d)
run_ok max first_place count_place first n c r d e =
    let some = guard_ok (eqb n 0) (Malformed count_place) (cond (ltb max n) (Err TooLong) (cond (ltb (2 ^ 64) (first + n)) (Err (Malformed first_place)) (Ok ((first, n), c)))) (r, d) e in
    let few = guard_ok (ltb max n) TooLong (cond (ltb (2 ^ 64) (first + n)) (Err (Malformed first_place)) (Ok ((first, n), c))) (r, d) some.1 in
    let last = guard_ok (ltb (2 ^ 64) (first + n)) (Malformed first_place) (Ok ((first, n), c)) (r, d) few.1 in
    let same : ((first, n), c) ≡ (r, d) = ok_is ((first, n), c) (r, d) last.1 in
    let positive : 0 < n = by_zero n some.0 in
    (positive, ltb-false max n few.0, ltb-false (2 ^ 64) (first + n) last.0, ap (λ (x : (ℕ × ℕ) × Cursor). x.0) same, ap (λ (x : (ℕ × ℕ) × Cursor). x.1) same)
  where
    by_zero : (n : ℕ) → eqb n 0 ≡ false → 0 < n
    by_zero zero e = absurd cc
    by_zero (suc n) e = omega arith

pub record RunTakes (max : ℕ) (c : Cursor) (first n : ℕ) (d : Cursor) : Type 0 where
  pub takes : Takes c (long_word first ++ word n) d
  pub in_range : first < 2 ^ 64
  pub some : 0 < n
  pub few : n ≤ max
  pub small : n < 2 ^ 32
  pub last : first + n ≤ 2 ^ 64

pub run_takes : (max : ℕ) (c : Cursor) (r : ℕ × ℕ) (d : Cursor) → IsBytes c.rest → read_run max c ≡ Ok (r, d) → RunTakes max c r.0 r.1 d
unfolding read_run
run_takes max c r d fits e =
    let a = bind_ok (read_uint64 c) (λ first. read_uint32 first.1 >>= λ n. run_of max c.place first.1.place first.0 n.0 n.1) (r, d) e in
    let t = uint64_takes c a.0.0 a.0.1 fits a.1 in
    let b = bind_ok (read_uint32 a.0.1) (λ n. run_of max c.place a.0.1.place a.0.0 n.0 n.1) (r, d) a.2 in
    let u = uint32_takes a.0.1 b.0.0 b.0.1 (Takes-bytes c (long_word a.0.0) a.0.1 t.0 fits) b.1 in
    let k = run_ok max c.place a.0.1.place a.0.0 b.0.0 b.0.1 r d b.2 in
    let here : RunTakes max c a.0.0 b.0.0 b.0.1 = record { takes = Takes-join c (long_word a.0.0) a.0.1 (word b.0.0) b.0.1 t.0 u.0; in_range = t.1; some = k.0; few = k.1; small = u.1; last = k.2 } in
    subst (λ (z : Cursor). RunTakes max c r.0 r.1 z) k.4 (subst (λ (x : ℕ × ℕ). RunTakes max c x.0 x.1 b.0.1) k.3 here)

pub run_again : (max : ℕ) (c : Cursor) (first n : ℕ) (d : Cursor) → first < 2 ^ 64 → 0 < n → n ≤ max → n < 2 ^ 32 → first + n ≤ 2 ^ 64 → Takes c (long_word first ++ word n) d → read_run max c ≡ Ok ((first, n), d)
unfolding read_run
run_again max c first n d range some few small last t =
    let m = between c (long_word first) (word n) d in
    let zero_no : eqb n 0 ≡ false = ne_eqb n 0 (λ e. absurd (omega (arith, e, some))) in
    rw (uint64_again c first m range (Takes-first c (long_word first) (word n) d t), uint32_again m n d small (Takes-second c (long_word first) (word n) d t), zero_no, le-ltb _ _ few, le-ltb _ _ last) refl

flag_ok : (place n : ℕ) (b : Bool) → flag_of place n ≡ Ok b → n ≡ cond b 1 0
flag_ok place zero b e = ap (λ (x : Bool). cond x 1 0) (ok_is false b e)
flag_ok place (suc zero) b e = ap (λ (x : Bool). cond x 1 0) (ok_is true b e)
flag_ok place (suc (suc n)) b e = absurd cc

pub flag_takes : (c : Cursor) (b : Bool) (d : Cursor) → IsBytes c.rest → read_flag c ≡ Ok (b, d) → Takes c (word (cond b 1 0)) d
unfolding read_flag
flag_takes c b d fits e =
    let x = bind_ok (read_uint32 c) (λ n. flag_of c.place n.0 >>= λ flag. Ok (flag, n.1)) (b, d) e in
    let y = bind_ok (flag_of c.place x.0.0) (λ flag. Ok (flag, x.0.1)) (b, d) x.2 in
    let t = (uint32_takes c x.0.0 x.0.1 fits x.1).0 in
    let n-is : x.0.0 ≡ cond y.0 1 0 = flag_ok c.place x.0.0 y.0 y.1 in
    subst (λ (z : Bool × Cursor). Takes c (word (cond z.0 1 0)) z.1) (ok_is (y.0, x.0.1) (b, d) y.2) (subst (λ (k : ℕ). Takes c (word k) x.0.1) n-is t)

pub flag_again : (c : Cursor) (b : Bool) (d : Cursor) → Takes c (word (cond b 1 0)) d → read_flag c ≡ Ok (b, d)
unfolding read_flag
flag_again c true d p = rw (uint32_again c 1 d (omega arith) p) refl
flag_again c false d p = rw (uint32_again c 0 d (omega arith) p) refl

-- ---- a length and its bytes

pub opaque_takes : (max : ℕ) (c : Cursor) (v : List ℕ) (d : Cursor) → IsBytes c.rest → read_opaque max c ≡ Ok (v, d) → Takes c (word (length v) ++ padded v) d × IsBytes v × (length v ≤ max) × (length v < 2 ^ 32)
unfolding read_opaque
opaque_takes max c v d fits e =
    let b = bind_ok (read_count max c) (λ n. read_bytes n.0 n.1) (v, d) e in
    let n = b.0.0 in
    let m = b.0.1 in
    let t = count_takes max c n m fits b.1 in
    let u = bytes_take n m v d (Takes-bytes c (word n) m t.0 fits) b.2 in
    let first : Takes c (word (length v)) m = subst (λ (k : ℕ). Takes c (word k) m) (sym u.2) t.0 in
    (Takes-join c (word (length v)) m (padded v) d first u.0, u.1, omega (arith, u.2, t.1), omega (arith, u.2, t.2))

pub opaque_again : (max : ℕ) (c : Cursor) (v : List ℕ) (d : Cursor) → length v ≤ max → length v < 2 ^ 32 → Takes c (word (length v) ++ padded v) d → read_opaque max c ≡ Ok (v, d)
unfolding read_opaque
opaque_again max c v d le lt t =
    let m = between c (word (length v)) (padded v) d in
    rw (count_again max c (length v) m le lt (Takes-first c (word (length v)) (padded v) d t), bytes_again (length v) m v d refl (Takes-second c (word (length v)) (padded v) d t)) refl
