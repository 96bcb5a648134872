-- Passing over a value ends where reading it ends, at the same fault, and is never out of memory.
use Rattle.std.proofs.Common.{◌≡◌, ◌≢◌, ℕ, zero, suc, ◌+◌, ◌^◌, Bool, true, false, cond, ltb, eqb, List, [], ◌∷◌, ◌⊎◌, length, take, drop, Option, Some, None, Result, Ok, Err, refl, sym, ◌∙◌, inl, inr}
use Rattle.std.specs.Prelude.{IfErr, IfOk, IsOk, IsTrue, ◌↔◌, MatchResult, is_ok}
use Rattle.std.specs.Int.{w32, w64, from_be_bytes}
use Rattle.scp_types.specs.declared.fault.Fault.{Fault}
use Rattle.scp_types.specs.declared.fault.Fault.TheVariants.{NoMemory, Malformed, TooLong}
use Rattle.scp_xdr.specs.Tree.{Tree, tree_of}
use Rattle.scp_xdr.specs.Kind.{Kind, uint32, uint64, fixed, opaque, optional, array, numbered, both, union, tree, Arms, no_arm, arm, Values, Spells, padding_len}
use Rattle.scp_xdr.specs.Reading.{Cursor, start, skip, Read, ◌>>=◌, read_uint32, read_uint64, read_bytes, unless_nonzero, first_nonzero, read_count, read_run, run_of, read_opaque, flag_of, read_flag, read_items, read_optional, tree_with, read_inner, reading, reading_arm, read_end, reading_whole}
use Rattle.scp_xdr.specs.Passing.{left_of, pass_items, pass_optional, pass_inner, passing, passing_arm, passing_whole}
use Rattle.scp_xdr.specs.Words.{PassesWhole, Gives, IsReadingFault}
use Rattle.scp_xdr.proofs.Parts.{IsBytes}
use Rattle.scp_xdr.proofs.Laws.{whole_found, whole_again}

-- ---- steps

last_left : {B C : Type 0} (g : B → C) (r : Read B) → left_of (r >>= λ y. Ok (g y.0, y.1)) ≡ left_of r
last_left g (Ok y) = refl
last_left g (Err f) = refl

two_left : {A B C : Type 0} (h : A → B → C) (r : Read A) (f : Cursor → Read B) (p : Result Cursor Fault) (q : Cursor → Result Cursor Fault) → p ≡ left_of r → ((d : Cursor) → q d ≡ left_of (f d))
    → (p >>= q) ≡ left_of (r >>= λ x. f x.1 >>= λ y. Ok (h x.0 y.0, y.1))
two_left h (Ok x) f p q e law = rw e (law x.1 ∙ sym (last_left (h x.0) (f x.1)))
two_left h (Err d) f p q e law = rw e refl

then_left : {A X : Type 0} (r : Read A) (f : A → Cursor → Read X) (q : A → Cursor → Result Cursor Fault) → ((n : A) (d : Cursor) → q n d ≡ left_of (f n d)) → (r >>= λ n. q n.0 n.1) ≡ left_of (r >>= λ n. f n.0 n.1)
then_left (Ok x) f q law = law x.0 x.1
then_left (Err d) f q law = refl

-- ---- items, optionals, trees

abbrev IsLeft : {X : Type 0} → (Cursor → Result Cursor Fault) → (Cursor → Read X) → Type 0
IsLeft pass item = (c : Cursor) → pass c ≡ left_of (item c)

items_left : {X : Type 0} (item : Cursor → Read X) (pass : Cursor → Result Cursor Fault) → IsLeft pass item → (n : ℕ) → IsLeft (pass_items pass n) (read_items item n)
unfolding pass_items read_items
items_left item pass law zero c = refl
items_left {X} item pass law (suc n) c = two_left (λ (x : X) (xs : List X). x ∷ xs) (item c) (read_items item n) (pass c) (pass_items pass n) (law c) (items_left item pass law n)

optional_left : {X : Type 0} (item : Cursor → Read X) (pass : Cursor → Result Cursor Fault) → IsLeft pass item → IsLeft (pass_optional pass) (read_optional item)
unfolding pass_optional read_optional
optional_left {X} item pass law c = at (read_flag c)
  where
    here : (b : Bool) (d : Cursor) → cond b (pass d) (Ok d) ≡ left_of (cond b (item d >>= λ x. Ok (Some x.0, x.1)) (Ok (None, d)))
    here true d = law d ∙ sym (last_left {B = X} {C = Option X} (λ x. Some x) (item d))
    here false d = refl

    at : (r : Read Bool) → (r >>= λ flag. cond flag.0 (pass flag.1) (Ok flag.1)) ≡ left_of (r >>= λ flag. cond flag.0 (item flag.1 >>= λ x. Ok (Some x.0, x.1)) (Ok (None, flag.1)))
    at (Ok x) = here x.0 x.1
    at (Err f) = refl

tree_left : {X : Type 0} (head : Cursor → Read X) (inner : Cursor → Read (List (Tree X))) (p q : Cursor → Result Cursor Fault) → IsLeft p head → IsLeft q inner → (c : Cursor) → (p c >>= λ d. q d) ≡ left_of (tree_with head inner c)
unfolding tree_with
tree_left {X} head inner p q law inner_law c = two_left (λ (x : X) (ts : List (Tree X)). tree_of x ts) (head c) inner (p c) q (law c) inner_law

inner_left : {X : Type 0} (head : Cursor → Read X) (pass : Cursor → Result Cursor Fault) → IsLeft pass head → (levels max : ℕ) → IsLeft (pass_inner pass levels max) (read_inner head levels max)
unfolding pass_inner read_inner
inner_left {X} head pass law zero max c = then_left {X = List (Tree X)} (read_count 0 c) (λ n d. Ok ([], d)) (λ n d. Ok d) (λ n d. refl)
inner_left head pass law (suc levels) max c =
    then_left (read_count max c) (λ n d. read_items (tree_with head (read_inner head levels max)) n d) (λ n d. pass_items (λ e. pass e >>= λ g. pass_inner pass levels max g) n d)
    (λ n d. items_left (tree_with head (read_inner head levels max)) (λ e. pass e >>= λ g. pass_inner pass levels max g) (tree_left head (read_inner head levels max) pass (pass_inner pass levels max) law (inner_left head pass law levels max)) n d)

-- ---- every kind

abbrev first_arm : {A B : Type 0} → A → A ⊎ B
first_arm x = inl x

abbrev other_arm : {A B : Type 0} → B → A ⊎ B
other_arm x = inr x

one_left : {A B : Type 0} (b : Bool) (p q : Result Cursor Fault) (r : Read A) (s : Read B) → p ≡ left_of r → q ≡ left_of s → cond b p q ≡ left_of (cond b (r >>= λ x. Ok (first_arm {A = A} {B = B} x.0, x.1)) (s >>= λ x. Ok (other_arm {A = A} {B = B} x.0, x.1)))
one_left {A} {B} true p q r s e h = e ∙ sym (last_left (λ (x : A). first_arm {A = A} {B = B} x) r)
one_left {A} {B} false p q r s e h = h ∙ sym (last_left (λ (x : B). other_arm {A = A} {B = B} x) s)

mutual
  pub left_is : (k : Kind) (c : Cursor) → passing k c ≡ left_of (reading k c)
  left_is uint32 c = refl
  left_is uint64 c = refl
  left_is (fixed n) c = refl
  left_is (opaque max) c = refl
  left_is (optional k) c = optional_left (λ d. reading k d) (λ d. passing k d) (λ d. left_is k d) c
  left_is (array max k) c =
      then_left (read_count max c) (λ n d. read_items (λ e. reading k e) n d) (λ n d. pass_items (λ e. passing k e) n d) (λ n d. items_left (λ e. reading k e) (λ e. passing k e) (λ e. left_is k e) n d)
  left_is (numbered max k) c =
      then_left (read_run max c) (λ r d. read_items (λ e. reading k e) r.1 d >>= λ xs. Ok ((r.0, xs.0), xs.1)) (λ r d. pass_items (λ e. passing k e) r.1 d)
      (λ r d. items_left (λ e. reading k e) (λ e. passing k e) (λ e. left_is k e) r.1 d ∙ sym (last_left (λ (xs : List (Values k)). (r.0, xs)) (read_items (λ e. reading k e) r.1 d)))
  left_is (both a b) c = two_left (λ (x : Values a) (y : Values b). (x, y)) (reading a c) (λ d. reading b d) (passing a c) (λ d. passing b d) (left_is a c) (λ d. left_is b d)
  left_is (union arms) c = then_left (read_uint32 c) (λ n d. reading_arm arms c.place n d) (λ n d. passing_arm arms c.place n d) (λ n d. left_is_arm arms c.place n d)
  left_is (tree levels max head) c =
      tree_left (λ d. reading head d) (read_inner (λ d. reading head d) levels max) (λ d. passing head d) (pass_inner (λ d. passing head d) levels max) (λ d. left_is head d) (inner_left (λ d. reading head d) (λ d. passing head d) (λ d. left_is head d) levels max) c

  pub left_is_arm : (arms : Arms) (place tag : ℕ) (c : Cursor) → passing_arm arms place tag c ≡ left_of (reading_arm arms place tag c)
  left_is_arm no_arm place tag c = refl
  left_is_arm (arm t k others) place tag c = one_left (eqb tag t) (passing k c) (passing_arm others place tag c) (reading k c) (reading_arm others place tag c) (left_is k c) (left_is_arm others place tag c)

-- ---- the faults are those of bytes

abbrev Known : {A : Type 0} → Result A Fault → Type 0
Known (Ok x) = Unit {0}
Known (Err f) = IsReadingFault f

malformed : (place : ℕ) → IsReadingFault (Malformed place)
malformed place = tt

too_long : IsReadingFault TooLong
too_long = tt

known_then : {A B : Type 0} (r : Result A Fault) (f : A → Result B Fault) → Known r → ((x : A) → Known (f x)) → Known (r >>= f)
known_then (Ok x) f h g = g x
known_then (Err d) f h g = h

known_if : {A : Type 0} (b : Bool) (r s : Result A Fault) → Known r → Known s → Known (cond b r s)
known_if true r s p q = p
known_if false r s p q = q

known_left : {A : Type 0} (r : Read A) → Known r → Known (left_of r)
known_left (Ok x) h = tt
known_left (Err f) h = h

known_uint32 : (c : Cursor) → Known (read_uint32 c)
unfolding read_uint32
known_uint32 c = known_if (ltb (length c.rest) 4) (Err (Malformed c.place)) (Ok (from_be_bytes w32 (take 4 c.rest), skip 4 c)) (malformed c.place) tt

known_uint64 : (c : Cursor) → Known (read_uint64 c)
unfolding read_uint64
known_uint64 c = known_if (ltb (length c.rest) 8) (Err (Malformed c.place)) (Ok (from_be_bytes w64 (take 8 c.rest), skip 8 c)) (malformed c.place) tt

known_unless : (o : Option ℕ) (n padding : ℕ) (c : Cursor) → Known (unless_nonzero o n padding c)
known_unless None n padding c = tt
known_unless (Some i) n padding c = malformed (c.place + n + i)

known_bytes : (n : ℕ) (c : Cursor) → Known (read_bytes n c)
unfolding read_bytes
known_bytes n c =
    let p = padding_len n in
    let o = first_nonzero (take p (drop n c.rest)) in
    known_if (ltb (length c.rest) (n + p)) (Err (Malformed c.place)) (unless_nonzero o n p c) (malformed c.place) (known_unless o n p c)

known_count : (max : ℕ) (c : Cursor) → Known (read_count max c)
unfolding read_count
known_count max c = known_then (read_uint32 c) (λ n. cond (ltb max n.0) (Err TooLong) (Ok n)) (known_uint32 c) (λ n. known_if (ltb max n.0) (Err TooLong) (Ok n) too_long tt)

known_opaque : (max : ℕ) (c : Cursor) → Known (read_opaque max c)
unfolding read_opaque
known_opaque max c = known_then (read_count max c) (λ n. read_bytes n.0 n.1) (known_count max c) (λ n. known_bytes n.0 n.1)

known_flag_of : (place n : ℕ) → Known (flag_of place n)
known_flag_of place zero = tt
known_flag_of place (suc zero) = tt
known_flag_of place (suc (suc n)) = malformed place

known_flag : (c : Cursor) → Known (read_flag c)
unfolding read_flag
known_flag c =
    known_then (read_uint32 c) (λ n. flag_of c.place n.0 >>= λ flag. Ok (flag, n.1)) (known_uint32 c)
    (λ n. known_then (flag_of c.place n.0) (λ flag. Ok (flag, n.1)) (known_flag_of c.place n.0) (λ flag. tt))

abbrev AreKnown : (Cursor → Result Cursor Fault) → Type 0
AreKnown pass = (c : Cursor) → Known (pass c)

known_items : (pass : Cursor → Result Cursor Fault) → AreKnown pass → (n : ℕ) → AreKnown (pass_items pass n)
unfolding pass_items
known_items pass law zero c = tt
known_items pass law (suc n) c = known_then (pass c) (λ d. pass_items pass n d) (law c) (λ d. known_items pass law n d)

known_optional : (pass : Cursor → Result Cursor Fault) → AreKnown pass → AreKnown (pass_optional pass)
unfolding pass_optional
known_optional pass law c = known_then (read_flag c) (λ flag. cond flag.0 (pass flag.1) (Ok flag.1)) (known_flag c) (λ flag. known_if flag.0 (pass flag.1) (Ok flag.1) (law flag.1) tt)

known_inner : (pass : Cursor → Result Cursor Fault) → AreKnown pass → (levels max : ℕ) → AreKnown (pass_inner pass levels max)
unfolding pass_inner
known_inner pass law zero max c = known_then (read_count 0 c) (λ n. Ok n.1) (known_count 0 c) (λ n. tt)
known_inner pass law (suc levels) max c =
    known_then (read_count max c) (λ n. pass_items (λ d. pass d >>= λ e. pass_inner pass levels max e) n.0 n.1) (known_count max c)
    (λ n. known_items (λ d. pass d >>= λ e. pass_inner pass levels max e) (λ d. known_then (pass d) (λ e. pass_inner pass levels max e) (law d) (λ e. known_inner pass law levels max e)) n.0 n.1)

known_run : (max : ℕ) (c : Cursor) → Known (read_run max c)
unfolding read_run
known_run max c = known_then (read_uint64 c) (λ first. read_uint32 first.1 >>= λ n. run_of max c.place first.1.place first.0 n.0 n.1) (known_uint64 c) (λ first. known_then (read_uint32 first.1) (λ n. run_of max c.place first.1.place first.0 n.0 n.1) (known_uint32 first.1) (λ n. known_if (eqb n.0 0) (Err (Malformed first.1.place)) (cond (ltb max n.0) (Err TooLong) (cond (ltb (2 ^ 64) (first.0 + n.0)) (Err (Malformed c.place)) (Ok ((first.0, n.0), n.1)))) (malformed first.1.place) (known_if (ltb max n.0) (Err TooLong) (cond (ltb (2 ^ 64) (first.0 + n.0)) (Err (Malformed c.place)) (Ok ((first.0, n.0), n.1))) too_long (known_if (ltb (2 ^ 64) (first.0 + n.0)) (Err (Malformed c.place)) (Ok ((first.0, n.0), n.1)) (malformed c.place) tt))))

mutual
  known : (k : Kind) → AreKnown (λ c. passing k c)
  known uint32 c = known_left (read_uint32 c) (known_uint32 c)
  known uint64 c = known_left (read_uint64 c) (known_uint64 c)
  known (fixed n) c = known_left (read_bytes n c) (known_bytes n c)
  known (opaque max) c = known_left (read_opaque max c) (known_opaque max c)
  known (optional k) c = known_optional (λ d. passing k d) (λ d. known k d) c
  known (array max k) c = known_then (read_count max c) (λ n. pass_items (λ d. passing k d) n.0 n.1) (known_count max c) (λ n. known_items (λ d. passing k d) (λ d. known k d) n.0 n.1)
  known (numbered max k) c = known_then (read_run max c) (λ r. pass_items (λ d. passing k d) r.0.1 r.1) (known_run max c) (λ r. known_items (λ d. passing k d) (λ d. known k d) r.0.1 r.1)
  known (both a b) c = known_then (passing a c) (λ d. passing b d) (known a c) (λ d. known b d)
  known (union arms) c = known_then (read_uint32 c) (λ tag. passing_arm arms c.place tag.0 tag.1) (known_uint32 c) (λ tag. known_arm arms c.place tag.0 tag.1)
  known (tree levels max head) c = known_then (passing head c) (λ d. pass_inner (λ e. passing head e) levels max d) (known head c) (λ d. known_inner (λ e. passing head e) (λ e. known head e) levels max d)

  known_arm : (arms : Arms) (place tag : ℕ) (c : Cursor) → Known (passing_arm arms place tag c)
  known_arm no_arm place tag c = malformed place
  known_arm (arm t k others) place tag c = known_if (eqb tag t) (passing k c) (passing_arm others place tag c) (known k c) (known_arm others place tag c)

-- ---- all of the bytes

ends_left : {A : Type 0} (r : Read A) → (left_of r >>= λ c. read_end c) ≡ left_of (r >>= λ x. read_end x.1 >>= λ done. Ok (x.0, done))
ends_left (Ok x) = sym (same x.0 (read_end x.1))
  where
    same : {B : Type 0} (y : B) (s : Result Cursor Fault) → left_of (s >>= λ done. Ok (y, done)) ≡ s
    same y (Ok d) = refl
    same y (Err f) = refl
ends_left (Err f) = refl

abbrev Passed : {A : Type 0} → Result Cursor Fault → Result A Fault → Type 0
Passed {A} (Ok c) r = (y : A) × (r ≡ Ok y)
Passed (Err f) r = r ≡ Err f

passed_end : {A : Type 0} (x : A) (s : Result Cursor Fault) → Passed s (s >>= λ done. Ok x)
passed_end x (Ok d) = (x, refl)
passed_end x (Err f) = refl

passed_from : {A : Type 0} (p : Result Cursor Fault) (r : Read A) → p ≡ left_of r → Passed (p >>= λ c. read_end c) (r >>= λ x. read_end x.1 >>= λ done. Ok x.0)
passed_from p (Ok x) e = rw e (passed_end x.0 (read_end x.1))
passed_from p (Err f) e = rw e refl

passed_whole : (k : Kind) (bytes : List ℕ) → Passed (passing_whole k bytes) (reading_whole k bytes)
unfolding passing_whole reading_whole
passed_whole k bytes = passed_from (passing k (start bytes)) (reading k (start bytes)) (left_is k (start bytes))

known_end : (c : Cursor) → Known (read_end c)
unfolding read_end
known_end c = known_if (eqb (length c.rest) 0) (Ok c) (Err (Malformed c.place)) tt (malformed c.place)

known_whole : (k : Kind) (bytes : List ℕ) → Known (passing_whole k bytes)
unfolding passing_whole
known_whole k bytes = known_then (passing k (start bytes)) (λ c. read_end c) (known k (start bytes)) (λ c. known_end c)

-- ---- at what a call gave

abbrev pub PassGives : {X : Type 0} → Result X Fault → Result Cursor Fault → Type 0
PassGives r passed = MatchResult r (λ _. IsOk passed) (λ f. passed ≡ Err f)

pub exact_from : {X : Type 0} (k : Kind) (bytes : List ℕ) (r : Result X Fault) → PassGives r (passing_whole k bytes) → PassesWhole r (reading_whole k bytes)
exact_from {X} k bytes r given = at r (passing_whole k bytes) (reading_whole k bytes) given (passed_whole k bytes)
  where
    at : {Y : Type 0} (r : Result X Fault) (p : Result Cursor Fault) (read : Result Y Fault) → PassGives r p → Passed p read → PassesWhole r read
    at (Ok x) (Ok c) read g h = h
    at (Ok x) (Err f) read g h = absurd cc
    at (Err d) p read g h = rw g at h

pub passes_whole : (k : Kind) (bytes : List ℕ) → PassesWhole (passing_whole k bytes) (reading_whole k bytes)
passes_whole k bytes = exact_from k bytes (passing_whole k bytes) (itself (passing_whole k bytes))
  where
    itself : (r : Result Cursor Fault) → PassGives r r
    itself (Ok c) = refl
    itself (Err f) = refl

pub known_from : {X : Type 0} (k : Kind) (bytes : List ℕ) (r : Result X Fault) → PassGives r (passing_whole k bytes) → IfErr r IsReadingFault
known_from k bytes (Ok x) given = tt
known_from k bytes (Err f) given = rw given at (known_whole k bytes)

-- the first fault of bytes that encode nothing
faults_of : {A : Type 0} (p : Result Cursor Fault) (r : Result A Fault) (f : Fault) → Passed p r → Known p → r ≡ Err f → IsReadingFault f
faults_of (Ok c) r f passed known e = absurd (let same : Ok passed.0 ≡ Err f = sym passed.1 ∙ e in cc)
faults_of (Err g) r f passed known e =
    let same : g ≡ f = (let both : Err g ≡ Err f = sym passed ∙ e in cc) in
    rw same at known

pub faults_from : {X : Type 0} (k : Kind) (view : X → Values k) (bytes : List ℕ) (r : Result X Fault) → Gives view r (reading_whole k bytes) → IfErr r (λ f. f ≢ NoMemory → IsReadingFault f)
faults_from k view bytes (Ok x) given = tt
faults_from k view bytes (Err f) given = λ other. faults_of (passing_whole k bytes) (reading_whole k bytes) f (passed_whole k bytes) (known_whole k bytes) (given other)

pub spelt_from : {X : Type 0} (k : Kind) (bytes : List ℕ) (r : Result X Fault) → IsBytes bytes → PassesWhole r (reading_whole k bytes) → IfOk r (λ _. (v : Values k) × Spells k bytes v)
spelt_from k bytes (Ok x) fits given = (given.0, whole_found k bytes given.0 fits given.1)
spelt_from k bytes (Err f) fits given = tt

pub decided : {X : Type 0} (k : Kind) (bytes : List ℕ) (r : Result X Fault) → PassesWhole r (reading_whole k bytes) → IfOk r (λ _. (v : Values k) × Spells k bytes v) → IsTrue (is_ok r) ↔ ((v : Values k) × Spells k bytes v)
decided k bytes (Ok x) given spelt = (λ t. spelt, λ o. refl)
decided k bytes (Err f) given spelt = (λ t. absurd cc, λ o. absurd (not_both (reading_whole k bytes) o.0 f given (whole_again k bytes o.0 o.1)))
  where
    not_both : {Y : Type 0} (r : Result Y Fault) (y : Y) (g : Fault) → r ≡ Err g → r ≡ Ok y → ⊥
    not_both r y g p q = let e : Err g ≡ Ok y = sym p ∙ q in cc
