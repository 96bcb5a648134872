-- Texts of which each comes once.
use Rattle.std.proofs.Common.{◌≡◌, ℕ, suc, ◌+◌, zero, ◌<◌, ◌≤◌, Bool, true, false, not, ◌||◌, cond, ltb, List, [], ◌∷◌, ◌++◌, filter, map, drop, length, get_or, count_by, Some, None, option_map, arith, refl, sym, ap, ◌∙◌, subst, inl, inr}
use Rattle.std.specs.List.{list_any, position, position_or_len}
use Rattle.std.specs.Str.{bytes_eq}
use Rattle.std.proofs.lemmas.Bool.{cases_Bool, cases_lt, or_parts, lt-ltb, le-ltb}
use Rattle.std.proofs.lemmas.Option.{slice_get-get_or, slice_get-map, get_or_from_slice_get}
use Rattle.std.proofs.lemmas.List.Elements.{filter-append}
use Rattle.std.proofs.lemmas.List.Sums.{length-filter, count_by-le-length, position_or_len_is, sum_by-cons}
use Rattle.std.proofs.lemmas.Slice.Eq.{bytes_eq-Decides}
use Rattle.scp_quorum_files.specs.Networks.{each_once}
use Rattle.scp_quorum_files.proofs.Parts.{filter_lacks, filter_whole}

abbrev Text : Type 0
Text = List ℕ

clash : {X : Type 0} (b : Bool) → b ≡ true → b ≡ false → X
clash b is_so not_so = absurd (let f : true ≡ false = sym is_so ∙ not_so in cc)

pub eq_itself : (text : Text) → bytes_eq text text ≡ true
eq_itself text = (bytes_eq-Decides text text).1 refl

pub eq_same : (one other : Text) → bytes_eq one other ≡ true → one ≡ other
eq_same one other e = (bytes_eq-Decides one other).0 e

-- the test is the same from the other side
pub eq_turned : (one other : Text) → bytes_eq one other ≡ bytes_eq other one
eq_turned one other = by (bytes_eq one other) refl
  where
    by : (b : Bool) → bytes_eq one other ≡ b → bytes_eq one other ≡ bytes_eq other one
    by true is = is ∙ sym ((bytes_eq-Decides other one).1 (sym (eq_same one other is)))
    by false is =
        elim (cases_Bool (bytes_eq other one)) [
          | inl back ↦ clash (bytes_eq one other) ((bytes_eq-Decides one other).1 (sym (eq_same other one back))) is
          | inr apart ↦ is ∙ sym apart
        ]

-- another text than this one
abbrev other_than : Text → Text → Bool
other_than text other = not (bytes_eq text other)

is_same : (text other : Text) → bytes_eq text other ≡ true → other_than text other ≡ false
is_same text other e = ap not e

is_other : (text other : Text) → bytes_eq text other ≡ false → other_than text other ≡ true
is_other text other e = ap not e

-- a text stays among those that another one is taken out of
among_others : (text other : Text) (xs : List Text) → bytes_eq other text ≡ false → list_any (bytes_eq text) (filter (other_than other) xs) ≡ list_any (bytes_eq text) xs
among_others text other [] apart = refl
among_others text other (x ∷ xs) apart =
    elim (cases_Bool (bytes_eq other x)) [
      | inl same ↦ (
          let out : bytes_eq text x ≡ false = eq_turned text x ∙ ap (λ t. bytes_eq t text) (sym (eq_same other x same)) ∙ apart in
          ap (λ b. list_any (bytes_eq text) (cond b (x ∷ filter (other_than other) xs) (filter (other_than other) xs))) (is_same other x same)
          ∙ among_others text other xs apart
          ∙ ap (λ b. b || list_any (bytes_eq text) xs) (sym out))
      | inr different ↦
          ap (λ b. list_any (bytes_eq text) (cond b (x ∷ filter (other_than other) xs) (filter (other_than other) xs))) (is_other other x different)
          ∙ ap (λ b. bytes_eq text x || b) (among_others text other xs apart)
    ]

-- ---- one text more

with_one : Bool → List Text → Text → List Text
with_one there xs x = cond there xs (xs ++ x ∷ [])

pub once_more : (xs : List Text) (x : Text) → each_once (xs ++ x ∷ []) ≡ cond (list_any (bytes_eq x) (each_once xs)) (each_once xs) (each_once xs ++ x ∷ [])
once_more [] x = refl
once_more (a ∷ xs) x =
    let rest = each_once xs in
    let q : Text → Bool = other_than a in
    ap (λ (l : List Text). a ∷ filter q l) (once_more xs x)
    ∙ elim (cases_Bool (bytes_eq a x)) [
      | inl same ↦ (
          let found : bytes_eq x a ≡ true = eq_turned x a ∙ same in
          let right : cond (bytes_eq x a || list_any (bytes_eq x) (filter q rest)) (a ∷ filter q rest) ((a ∷ filter q rest) ++ x ∷ []) ≡ a ∷ filter q rest =
          ap (λ b. cond (b || list_any (bytes_eq x) (filter q rest)) (a ∷ filter q rest) ((a ∷ filter q rest) ++ x ∷ [])) found in
          at_same q rest (list_any (bytes_eq x) rest) (is_same a x same) ∙ sym right)
      | inr different ↦ (
          let out : bytes_eq x a ≡ false = eq_turned x a ∙ different in
          let same_test : (bytes_eq x a || list_any (bytes_eq x) (filter q rest)) ≡ list_any (bytes_eq x) rest =
          ap (λ b. b || list_any (bytes_eq x) (filter q rest)) out ∙ among_others x a rest different in
          at_other q rest (list_any (bytes_eq x) rest) (is_other a x different)
          ∙ ap (λ b. cond b (a ∷ filter q rest) ((a ∷ filter q rest) ++ x ∷ [])) (sym same_test))
    ]
  where
    at_same : (q : Text → Bool) (rest : List Text) (b : Bool) → q x ≡ false → a ∷ filter q (cond b rest (rest ++ x ∷ [])) ≡ a ∷ filter q rest
    at_same q rest true fails = refl
    at_same q rest false fails =
        ap (λ l. a ∷ l) (filter-append q rest (x ∷ []) ∙ ap (λ t. filter q rest ++ cond t (x ∷ []) []) fails ∙ no_more (filter q rest))
      where
        no_more : (l : List Text) → l ++ [] ≡ l
        no_more [] = refl
        no_more (y ∷ l) = ap (λ r. y ∷ r) (no_more l)

    at_other : (q : Text → Bool) (rest : List Text) (b : Bool) → q x ≡ true → a ∷ filter q (cond b rest (rest ++ x ∷ [])) ≡ cond b (a ∷ filter q rest) ((a ∷ filter q rest) ++ x ∷ [])
    at_other q rest true passes = refl
    at_other q rest false passes = ap (λ l. a ∷ l) (filter-append q rest (x ∷ []) ∙ ap (λ t. filter q rest ++ cond t (x ∷ []) []) passes)

-- a text that isn't there yet
pub once_push : (xs : List Text) (x : Text) → each_once xs ≡ xs → list_any (bytes_eq x) xs ≡ false → each_once (xs ++ x ∷ []) ≡ xs ++ x ∷ []
once_push xs x once new =
    once_more xs x ∙ ap (λ l. cond (list_any (bytes_eq x) l) l (l ++ x ∷ [])) once ∙ ap (λ b. cond b xs (xs ++ x ∷ [])) new

-- ---- texts that come twice

once_few : (xs : List Text) → length (each_once xs) ≤ length xs
once_few [] = omega arith
once_few (x ∷ xs) = omega (arith, once_few xs, length-filter (other_than x) (each_once xs), count_by-le-length (other_than x) (each_once xs))

-- those behind the first one
once_rest : (x : Text) (xs : List Text) → each_once (x ∷ xs) ≡ x ∷ xs → (each_once xs ≡ xs) × (filter (other_than x) xs ≡ xs)
once_rest x xs once =
    let behind : filter (other_than x) (each_once xs) ≡ xs = ap (drop 1) once in
    let few = once_few xs in
    let kept = length-filter (other_than x) (each_once xs) in
    let no_more = count_by-le-length (other_than x) (each_once xs) in
    let lens : length (filter (other_than x) (each_once xs)) ≡ length xs = ap length behind in
    let whole : filter (other_than x) (each_once xs) ≡ each_once xs = filter_whole (other_than x) (each_once xs) (omega (arith, few, kept, no_more, lens)) in
    let same : each_once xs ≡ xs = sym whole ∙ behind in
    (same, ap (filter (other_than x)) (sym same) ∙ behind)

pub once_twice : (front back : List Text) (x : Text) → list_any (bytes_eq x) front ≡ true → each_once (front ++ x ∷ back) ≡ front ++ x ∷ back → ⊥
once_twice [] back x there once = absurd (let f : false ≡ true = there in cc)
once_twice (a ∷ front) back x there once =
    let rest = once_rest a (front ++ x ∷ back) once in
    elim (cases_Bool (bytes_eq x a)) [
      | inl same ↦ filter_lacks (other_than a) front back x (is_same a x (eq_turned a x ∙ same)) rest.1
      | inr different ↦ once_twice front back x (sym (ap (λ b. b || list_any (bytes_eq x) front) different) ∙ there) rest.0
    ]

-- ---- each text of those that come once is at its place

abbrev pub ComeOnce : List Text → Type 0
ComeOnce [] = Unit {0}
ComeOnce (x ∷ xs) = (list_any (bytes_eq x) xs ≡ false) × ComeOnce xs

-- a text that isn't there isn't among those that a filter keeps
none_kept : (q : Text → Bool) (x : Text) (ys : List Text) → list_any (bytes_eq x) ys ≡ false → list_any (bytes_eq x) (filter q ys) ≡ false
none_kept q x [] none = refl
none_kept q x (y ∷ ys) none =
    let parts = or_parts (bytes_eq x y) (list_any (bytes_eq x) ys) none in
    let later = none_kept q x ys parts.1 in
    elim (cases_Bool (q y)) [
      | inl kept ↦
          ap (λ t. list_any (bytes_eq x) (cond t (y ∷ filter q ys) (filter q ys))) kept
          ∙ ap (λ t. t || list_any (bytes_eq x) (filter q ys)) parts.0 ∙ later
      | inr dropped ↦ ap (λ t. list_any (bytes_eq x) (cond t (y ∷ filter q ys) (filter q ys))) dropped ∙ later
    ]

-- those that a filter keeps
kept_once : (q : Text → Bool) (xs : List Text) → ComeOnce xs → ComeOnce (filter q xs)
kept_once q [] once = tt
kept_once q (x ∷ xs) once =
    let P : Bool → Type 0 = λ t. ComeOnce (cond t (x ∷ filter q xs) (filter q xs)) in
    let rest = kept_once q xs once.1 in
    elim (cases_Bool (q x)) [
      | inl kept ↦ subst P (sym kept) (none_kept q x xs once.0, rest)
      | inr dropped ↦ subst P (sym dropped) rest
    ]

taken_out : (x : Text) (xs : List Text) → list_any (bytes_eq x) (filter (other_than x) xs) ≡ false
taken_out x [] = refl
taken_out x (y ∷ ys) =
    let rest = taken_out x ys in
    elim (cases_Bool (bytes_eq x y)) [
      | inl same ↦ ap (λ t. list_any (bytes_eq x) (cond (not t) (y ∷ filter (other_than x) ys) (filter (other_than x) ys))) same ∙ rest
      | inr different ↦
          ap (λ t. list_any (bytes_eq x) (cond (not t) (y ∷ filter (other_than x) ys) (filter (other_than x) ys))) different
          ∙ ap (λ t. t || list_any (bytes_eq x) (filter (other_than x) ys)) different ∙ rest
    ]

pub once_is_once : (xs : List Text) → ComeOnce (each_once xs)
once_is_once [] = tt
once_is_once (x ∷ xs) = (taken_out x (each_once xs), kept_once (other_than x) (each_once xs) (once_is_once xs))

-- where a text comes once, no earlier one is it
none_earlier : (xs : List Text) (i j : ℕ) (d : Text) → ComeOnce xs → i < j → j < length xs → bytes_eq (get_or xs j d) (get_or xs i d) ≡ false
none_earlier [] i j d once lt within = absurd (omega arith)
none_earlier (x ∷ xs) i zero d once lt within = absurd (omega arith)
none_earlier (x ∷ xs) zero (suc j) d once lt within = eq_turned (get_or xs j d) x ∙ not_there xs j once.0 (omega (arith, within))
  where
    not_there : (ys : List Text) (k : ℕ) → list_any (bytes_eq x) ys ≡ false → k < length ys → bytes_eq x (get_or ys k d) ≡ false
    not_there [] k none le = absurd (omega arith)
    not_there (y ∷ ys) zero none le = (or_parts (bytes_eq x y) (list_any (bytes_eq x) ys) none).0
    not_there (y ∷ ys) (suc k) none le = not_there ys k (or_parts (bytes_eq x y) (list_any (bytes_eq x) ys) none).1 (omega (arith, le))
none_earlier (x ∷ xs) (suc i) (suc j) d once lt within = none_earlier xs i j d once.1 (omega (arith, lt)) (omega (arith, within))

pub placed : (xs : List Text) (i : ℕ) (d : Text) → ComeOnce xs → i < length xs → position (bytes_eq (get_or xs i d)) xs ≡ Some i
placed xs i d once within =
    let here : position_or_len (bytes_eq (get_or xs i d)) xs ≡ i = position_or_len_is (bytes_eq (get_or xs i d)) xs i d (omega (arith, within)) (λ k lt. none_earlier xs k i d once lt within) (λ _. eq_itself (get_or xs i d)) in
    ap (λ n. cond (ltb n (length xs)) (Some n) None) here ∙ ap (λ b. cond b (Some i) None) (lt-ltb i (length xs) within)

-- ---- the first place of a text

pub first_at : (p : Text → Bool) (xs : List Text) (i : ℕ) (d : Text) → i < length xs → ((k : ℕ) (e : Text) → k < i → p (get_or xs k e) ≡ false) → p (get_or xs i d) ≡ true → position p xs ≡ Some i
first_at p xs i d lt none here =
    let place : position_or_len p xs ≡ i = position_or_len_is p xs i d (omega (arith, lt)) (λ k below. none k d below) (λ _. here) in
    ap (λ n. cond (ltb n (length xs)) (Some n) None) place ∙ ap (λ b. cond b (Some i) None) (lt-ltb i (length xs) lt)

pub nowhere : (p : Text → Bool) (xs : List Text) (i : ℕ) → length xs ≤ i → ((k : ℕ) (e : Text) → k < i → p (get_or xs k e) ≡ false) → position p xs ≡ None
nowhere p xs i end none =
    let place : position_or_len p xs ≡ length xs = position_or_len_is p xs (length xs) [] (omega arith) (λ k below. none k [] (omega (arith, below, end))) (λ lt. absurd (omega (arith, lt))) in
    ap (λ n. cond (ltb n (length xs)) (Some n) None) place ∙ ap (λ b. cond b (Some (length xs)) None) (le-ltb (length xs) (length xs) (omega arith))

-- the text at a place
pub text_at_place : {X : Type 0} (f : X → Text) (xs : List X) (i : ℕ) (x : X) (d : Text) → i < length xs → x ≡ get_or xs i x → get_or (map f xs) i d ≡ f x
text_at_place f xs i x d lt is = get_or_from_slice_get (map f xs) i (f x) d (slice_get-map f xs i ∙ ap (option_map f) (slice_get-get_or xs i x lt ∙ ap Some (sym is)))

pub none_more : (p : Text → Bool) (xs : List Text) (i : ℕ) (text : Text) → i < length xs → ((d : Text) → get_or xs i d ≡ text) → p text ≡ false → ((k : ℕ) (e : Text) → k < i → p (get_or xs k e) ≡ false) → (k : ℕ) (e : Text) → k < i + 1 → p (get_or xs k e) ≡ false
none_more p xs i text lt here fails none k e below =
    elim (cases_lt k i) [
      | inl earlier ↦ none k e earlier
      | inr later ↦ (
          let same : k ≡ i = omega (arith, below, later) in
          ap (λ n. p (get_or xs n e)) same ∙ ap p (here e) ∙ fails)
    ]

pub count_map : {X : Type 0} (p : Text → Bool) (f : X → Text) (xs : List X) → count_by p (map f xs) ≡ count_by (λ x. p (f x)) xs
count_map p f [] = refl
count_map p f (x ∷ xs) =
    sum_by-cons (λ t. cond (p t) 1 0) (f x) (map f xs) ∙ ap (λ n. cond (p (f x)) 1 0 + n) (count_map p f xs) ∙ sym (sum_by-cons (λ y. cond (p (f y)) 1 0) x xs)
