-- Sets in a ring, by the order in which they were stored.
use Rattle.std.proofs.Common.{lt-ltb, le-ltb, slice_get, ◌≡◌, ◌≢◌, ℕ, ◌+◌, ◌-◌, ◌<◌, ◌≤◌, Bool, true, false, cond, List, [], ◌∷◌, ◌++◌, length, take, drop, map, refl, sym, ◌∙◌, ap, subst, arith, append_assoc, zero, suc, length-append, get_or, set, nat_eq, eqb-true, ltb-true, ltb-false, ltb}
use Rattle.std.specs.Prelude.{Option, Some, None, IfSome, find, option_map, nat_lt, slice_index_or, slice_set, if◌then◌else◌}
use Rattle.std.specs.List.{AllByRecursion, IsDistinct, swap_remove}
use Rattle.std.specs.Map.{lookup, keys_of}
use Rattle.std.specs.Cmp.Lexicographic.{pointwise, bytes_decides}
use Rattle.std.proofs.lemmas.List.{append-nil}
use Rattle.std.proofs.lemmas.Bool.{eqb-false}
use Rattle.scp_quorum.specs.scp_types.specs.declared.names.Hash.{Hash}
use Rattle.scp_quorum.specs.SharedSet.{SharedSet}
use Rattle.scp_quorum.specs.QuorumKind.{set_hash}
use Rattle.scp_quorum.specs.QuorumTree.{QuorumTree}
use Rattle.scp_fetch.specs.Store.{has_hash}
use Rattle.scp_fetch.specs.inside.Ring.{Entry, set_at, IsUnderItsHash, turned, placed, next_first, IsRing}

-- ---- finding

-- among sets that are kept under their own hashes, the one with the hash is the one under it
pub find_is : (hash : Hash) (es : List Entry) → AllByRecursion IsUnderItsHash es → find (has_hash hash) (map set_at es) ≡ option_map (λ (s : SharedSet). s.value) (lookup (pointwise nat_eq hash.0) es)
find_is hash [] a = refl
find_is hash (e ∷ es) a = rw (a.0) (by_test (pointwise nat_eq hash.0 (set_hash e.1.value)) (find_is hash es a.1))
  where
    by_test : (b : Bool) → find (has_hash hash) (map set_at es) ≡ option_map (λ (s : SharedSet). s.value) (lookup (pointwise nat_eq hash.0) es) → cond b (Some (set_at e)) (find (has_hash hash) (map set_at es)) ≡ option_map (λ (s : SharedSet). s.value) (cond b (Some e.1) (lookup (pointwise nat_eq hash.0) es))
    by_test true k = refl
    by_test false k = k

abbrev NoneOf : (List ℕ → Bool) → List Entry → Type 0
NoneOf test es = lookup test es ≡ None

-- what isn't found in the front is found after it
lookup-behind : (test : List ℕ → Bool) (ys zs : List Entry) → lookup test ys ≡ None → lookup test (ys ++ zs) ≡ lookup test zs
lookup-behind test [] zs n = refl
lookup-behind test (y ∷ ys) zs n = by_test (test y.0) n (lookup-behind test ys zs)
  where
    by_test : (b : Bool) → cond b (Some y.1) (lookup test ys) ≡ None → (lookup test ys ≡ None → lookup test (ys ++ zs) ≡ lookup test zs) → cond b (Some y.1) (lookup test (ys ++ zs)) ≡ lookup test zs
    by_test true n k = absurd cc
    by_test false n k = k n

lookup-over : (test : List ℕ → Bool) (ys xs : List Entry) (e : Entry) → test e.0 ≡ false → lookup test (ys ++ e ∷ xs) ≡ lookup test (ys ++ xs)
lookup-over test [] xs e f = rw f refl
lookup-over test (y ∷ ys) xs e f = ap (λ r. cond (test y.0) (Some y.1) r) (lookup-over test ys xs e f)

-- if a key is the one, no other key is
others_none : (h k : List ℕ) (es : List Entry) → pointwise nat_eq h k ≡ true → AllByRecursion (λ y. pointwise nat_eq k y ≡ false) (keys_of es) → lookup (pointwise nat_eq h) es ≡ None
others_none h k [] e a = refl
others_none h k (x ∷ xs) e a =
    let same : h ≡ k = (bytes_decides h k).0 e in
    let not : pointwise nat_eq h x.0 ≡ false = ap (λ g. pointwise nat_eq g x.0) same ∙ a.0 in
    rw not (others_none h k xs e a.1)

all-behind : {X : Type 0} (P : X → Type 0) (xs ys : List X) → AllByRecursion P (xs ++ ys) → AllByRecursion P ys
all-behind P [] ys a = a
all-behind P (x ∷ xs) ys a = all-behind P xs ys a.1

keys-append : (xs ys : List Entry) → keys_of (xs ++ ys) ≡ keys_of xs ++ keys_of ys
keys-append [] ys = refl
keys-append (x ∷ xs) ys = ap (λ ks. x.0 ∷ ks) (keys-append xs ys)

-- under distinct keys it doesn't matter where one begins
turn_lookup : (h : List ℕ) (xs ys : List Entry) → IsDistinct (pointwise nat_eq) (keys_of (xs ++ ys)) → lookup (pointwise nat_eq h) (ys ++ xs) ≡ lookup (pointwise nat_eq h) (xs ++ ys)
unfolding IsDistinct
turn_lookup h [] ys d = ap (λ zs. lookup (pointwise nat_eq h) zs) (append-nil ys)
turn_lookup h (e ∷ xs) ys d = by_test (pointwise nat_eq h e.0) refl (turn_lookup h xs ys d.1)
  where
    by_test : (b : Bool) → pointwise nat_eq h e.0 ≡ b → lookup (pointwise nat_eq h) (ys ++ xs) ≡ lookup (pointwise nat_eq h) (xs ++ ys) → lookup (pointwise nat_eq h) (ys ++ e ∷ xs) ≡ cond b (Some e.1) (lookup (pointwise nat_eq h) (xs ++ ys))
    by_test true is k =
        let none : lookup (pointwise nat_eq h) ys ≡ None = others_none h e.0 ys is (all-behind (λ y. pointwise nat_eq e.0 y ≡ false) (keys_of xs) (keys_of ys) (subst (λ ks. AllByRecursion (λ y. pointwise nat_eq e.0 y ≡ false) ks) (keys-append xs ys) d.0)) in
        lookup-behind (pointwise nat_eq h) ys (e ∷ xs) none ∙ rw is refl
    by_test false is k = lookup-over (pointwise nat_eq h) ys xs e is ∙ k

take_drop : {X : Type 0} (n : ℕ) (xs : List X) → take n xs ++ drop n xs ≡ xs
take_drop zero xs = refl
take_drop (suc n) [] = refl
take_drop (suc n) (x ∷ xs) = ap (λ ys. x ∷ ys) (take_drop n xs)

pub lookup_turned : (h : List ℕ) (first : ℕ) (es : List Entry) → IsDistinct (pointwise nat_eq) (keys_of es) → lookup (pointwise nat_eq h) (turned first es) ≡ lookup (pointwise nat_eq h) es
lookup_turned h first es d =
    turn_lookup h (take first es) (drop first es) (subst (λ (zs : List Entry). IsDistinct (pointwise nat_eq) (keys_of zs)) (sym (take_drop first es)) d)
    ∙ ap (λ (zs : List Entry). lookup (pointwise nat_eq h) zs) (take_drop first es)

all-append : {X : Type 0} (P : X → Type 0) (xs ys : List X) → AllByRecursion P xs → AllByRecursion P ys → AllByRecursion P (xs ++ ys)
all-append P [] ys a b = b
all-append P (x ∷ xs) ys a b = (a.0, all-append P xs ys a.1 b)

all-take : {X : Type 0} (P : X → Type 0) (n : ℕ) (xs : List X) → AllByRecursion P xs → AllByRecursion P (take n xs)
all-take P zero xs a = tt
all-take P (suc n) [] a = tt
all-take P (suc n) (x ∷ xs) a = (a.0, all-take P n xs a.1)

all-drop : {X : Type 0} (P : X → Type 0) (n : ℕ) (xs : List X) → AllByRecursion P xs → AllByRecursion P (drop n xs)
all-drop P zero xs a = a
all-drop P (suc n) [] a = tt
all-drop P (suc n) (x ∷ xs) a = all-drop P n xs a.1

-- the set with the hash, in the order in which the others were stored
pub find_turned : (hash : Hash) (first : ℕ) (es : List Entry) → AllByRecursion IsUnderItsHash es → IsDistinct (pointwise nat_eq) (keys_of es) → find (has_hash hash) (map set_at (turned first es)) ≡ option_map (λ (s : SharedSet). s.value) (lookup (pointwise nat_eq hash.0) es)
find_turned hash first es a d =
    find_is hash (turned first es) (all-append IsUnderItsHash (drop first es) (take first es) (all-drop IsUnderItsHash first es a) (all-take IsUnderItsHash first es a))
    ∙ ap (λ (r : Option SharedSet). option_map (λ (s : SharedSet). s.value) r) (lookup_turned hash.0 first es d)

-- ---- placing

at_end : {X : Type 0} (es : List X) (x d : X) → slice_index_or (es ++ x ∷ []) (length es) d ≡ x
at_end [] x d = refl
at_end (e ∷ es) x d = at_end es x d

take_front : {X : Type 0} (es : List X) (x : X) → take (length es) (es ++ x ∷ []) ≡ es
take_front [] x = refl
take_front (e ∷ es) x = ap (λ ys. e ∷ ys) (take_front es x)

put_in : {X : Type 0} (es : List X) (x : X) (i : ℕ) → i < length es → take (length es) (slice_set (es ++ x ∷ []) i x) ≡ take i es ++ x ∷ drop (suc i) es
put_in [] x i lt = absurd (omega (arith, lt))
put_in (e ∷ es) x zero lt = ap (λ ys. x ∷ ys) (take_front es x)
put_in (e ∷ es) x (suc i) lt = ap (λ ys. e ∷ ys) (put_in es x i (omega (arith, lt)))

less_one : (n : ℕ) → (n + 1) - 1 ≡ n
less_one n = omega arith

pub swapped_in : {X : Type 0} (es : List X) (x d : X) (i : ℕ) → i < length es → swap_remove (es ++ x ∷ []) i d ≡ take i es ++ x ∷ drop (i + 1) es
swapped_in es x d i lt =
    let long : length (es ++ x ∷ []) - 1 ≡ length es = ap (λ n. n - 1) (length-append es (x ∷ [])) ∙ less_one (length es) in
    let next : suc i ≡ i + 1 = omega arith in
    ap (λ n. take n (slice_set (es ++ x ∷ []) i (slice_index_or (es ++ x ∷ []) n d))) long
    ∙ ap (λ y. take (length es) (slice_set (es ++ x ∷ []) i y)) (at_end es x d)
    ∙ put_in es x i lt ∙ ap (λ n. take i es ++ x ∷ drop n es) next

drop_past : {X : Type 0} (es : List X) (x : X) (i : ℕ) → i < length es → drop (suc i) (take i es ++ x ∷ drop (suc i) es) ≡ drop (suc i) es
drop_past [] x i lt = absurd (omega (arith, lt))
drop_past (e ∷ es) x zero lt = refl
drop_past (e ∷ es) x (suc i) lt = drop_past es x i (omega (arith, lt))

take_past : {X : Type 0} (es : List X) (x : X) (i : ℕ) → i < length es → take (suc i) (take i es ++ x ∷ drop (suc i) es) ≡ take i es ++ x ∷ []
take_past [] x i lt = absurd (omega (arith, lt))
take_past (e ∷ es) x zero lt = refl
take_past (e ∷ es) x (suc i) lt = ap (λ ys. e ∷ ys) (take_past es x i (omega (arith, lt)))

drop_one : {X : Type 0} (es : List X) (i : ℕ) (zs : List X) → i < length es → drop 1 (drop i es ++ zs) ≡ drop (suc i) es ++ zs
drop_one [] i zs lt = absurd (omega (arith, lt))
drop_one (e ∷ es) zero zs lt = refl
drop_one (e ∷ es) (suc i) zs lt = drop_one es i zs (omega (arith, lt))

drop_all : {X : Type 0} (es : List X) (n : ℕ) → length es ≤ n → drop n es ≡ []
drop_all [] zero le = refl
drop_all [] (suc n) le = refl
drop_all (e ∷ es) zero le = absurd (omega (arith, le))
drop_all (e ∷ es) (suc n) le = drop_all es n (omega (arith, le))

-- the first left, and the new one is last
moved_on : (es : List Entry) (x : Entry) (i : ℕ) → i < length es → (b : Bool) → nat_eq (i + 1) 256 ≡ b → length es ≡ 256 → turned (if b then 0 else i + 1) (take i es ++ x ∷ drop (i + 1) es) ≡ drop 1 (turned i es) ++ x ∷ []
moved_on es x i lt true e long =
    let next : suc i ≡ i + 1 = omega arith in
    let end : drop (i + 1) es ≡ [] = drop_all es (i + 1) (omega (arith, long, eqb-true (i + 1) 256 e)) in
    append-nil (take i es ++ x ∷ drop (i + 1) es) ∙ ap (λ zs. take i es ++ x ∷ zs) end
    ∙ sym (ap (λ zs. zs ++ x ∷ []) (drop_one es i (take i es) lt ∙ ap (λ n. drop n es ++ take i es) next ∙ ap (λ zs. zs ++ take i es) end))
moved_on es x i lt false e long =
    let next : suc i ≡ i + 1 = omega arith in
    subst (λ n. turned n (take i es ++ x ∷ drop n es) ≡ drop 1 (turned i es) ++ x ∷ []) next
    (ap (λ zs. zs ++ take (suc i) (take i es ++ x ∷ drop (suc i) es)) (drop_past es x i lt)
    ∙ ap (λ zs. drop (suc i) es ++ zs) (take_past es x i lt)
    ∙ sym (append_assoc (drop (suc i) es) (take i es) (x ∷ []))
    ∙ sym (ap (λ zs. zs ++ x ∷ []) (drop_one es i (take i es) lt)))

pub turned_placed : (first : ℕ) (x : Entry) (es : List Entry) → IsRing first es → turned (next_first first es) (placed first x es) ≡ (if nat_lt (length es) 256 then turned first es ++ x ∷ [] else drop 1 (turned first es) ++ x ∷ [])
turned_placed first x es r = by_test (nat_lt (length es) 256) refl
  where
    by_test : (b : Bool) → nat_lt (length es) 256 ≡ b → turned (if b then first else (if nat_eq (first + 1) 256 then 0 else first + 1)) (if b then es ++ x ∷ [] else take first es ++ x ∷ drop (first + 1) es) ≡ (if b then turned first es ++ x ∷ [] else drop 1 (turned first es) ++ x ∷ [])
    by_test true e =
        let start : first ≡ 0 = r.from_start (ltb-true (length es) 256 e) in
        subst (λ n. turned n (es ++ x ∷ []) ≡ turned n es ++ x ∷ []) (sym start) (append-nil (es ++ x ∷ []) ∙ sym (ap (λ zs. zs ++ x ∷ []) (append-nil es)))
    by_test false e =
        let long : length es ≡ 256 = omega (arith, ltb-false (length es) 256 e, r.within) in
        moved_on es x first (omega (arith, long, r.first_within)) (nat_eq (first + 1) 256) refl long

length_around : {X : Type 0} (es : List X) (x : X) (i : ℕ) → i < length es → length (take i es ++ x ∷ drop (suc i) es) ≡ length es
length_around [] x i lt = absurd (omega (arith, lt))
length_around (e ∷ es) x zero lt = refl
length_around (e ∷ es) x (suc i) lt = ap (λ n. suc n) (length_around es x i (omega (arith, lt)))

pub ring_placed : (first : ℕ) (x : Entry) (es : List Entry) → IsRing first es → IsRing (next_first first es) (placed first x es)
ring_placed first x es r = by_test (nat_lt (length es) 256) refl
  where
    next_within : (b : Bool) → nat_eq (first + 1) 256 ≡ b → (if b then 0 else first + 1) < 256
    next_within true e = omega arith
    next_within false e = omega (arith, eqb-false (first + 1) 256 e, r.first_within)

    by_test : (b : Bool) → nat_lt (length es) 256 ≡ b → IsRing (if b then first else (if nat_eq (first + 1) 256 then 0 else first + 1)) (if b then es ++ x ∷ [] else take first es ++ x ∷ drop (first + 1) es)
    by_test true e = record { within = rw (length-append es (x ∷ [])) (omega (arith, ltb-true (length es) 256 e)); first_within = r.first_within; from_start = λ _. r.from_start (ltb-true (length es) 256 e) }
    by_test false e =
        let long : length es ≡ 256 = omega (arith, ltb-false (length es) 256 e, r.within) in
        let next : suc first ≡ first + 1 = omega arith in
        let same : length (take first es ++ x ∷ drop (first + 1) es) ≡ 256 = ap (λ n. length (take first es ++ x ∷ drop n es)) (sym next) ∙ length_around es x first (omega (arith, long, r.first_within)) ∙ long in
        record { within = omega (arith, same); first_within = next_within (nat_eq (first + 1) 256) refl; from_start = λ lt. absurd (omega (arith, lt, same)) }

pub under_placed : (first : ℕ) (x : Entry) (es : List Entry) → IsUnderItsHash x → AllByRecursion IsUnderItsHash es → AllByRecursion IsUnderItsHash (placed first x es)
under_placed first x es u a = by_test (nat_lt (length es) 256)
  where
    by_test : (b : Bool) → AllByRecursion IsUnderItsHash (if b then es ++ x ∷ [] else take first es ++ x ∷ drop (first + 1) es)
    by_test true = all-append IsUnderItsHash es (x ∷ []) a (u, tt)
    by_test false = all-append IsUnderItsHash (take first es) (x ∷ drop (first + 1) es) (all-take IsUnderItsHash first es a) (u, all-drop IsUnderItsHash (first + 1) es a)

-- ---- what the code has in hand

-- a place within a list is there
is_there : {X : Type 0} (xs : List X) (i : ℕ) → i < length xs → None ≡ slice_get xs i → ⊥
is_there [] i lt e = omega (arith, lt)
is_there (x ∷ xs) zero lt e = cc
is_there (x ∷ xs) (suc i) lt e = is_there xs i (omega (arith, lt)) e

pub placed_last : (first : ℕ) (x : Entry) (es news : List Entry) → news ≡ es ++ x ∷ [] → length news ≤ 256 → news ≡ placed first x es
placed_last first x es news p le =
    let long : length news ≡ length es + 1 = ap length p ∙ length-append es (x ∷ []) in
    p ∙ rw (lt-ltb (length es) 256 (omega (arith, long, le))) refl

pub placed_in : (first : ℕ) (x : Entry) (es news lasts : List Entry) (r : Option Entry) → news ≡ es ++ x ∷ [] → 256 < length news → IsRing first es → r ≡ slice_get news first → IfSome r (λ p. lasts ≡ swap_remove news first p) → lasts ≡ placed first x es
placed_in first x es news lasts None p lt ring at h = absurd (is_there news first (omega (arith, lt, ring.first_within)) at)
placed_in first x es news lasts (Some d) p lt ring at h =
    let long : length news ≡ length es + 1 = ap length p ∙ length-append es (x ∷ []) in
    let full : 256 ≤ length es = omega (arith, long, lt) in
    h ∙ ap (λ zs. swap_remove zs first d) p ∙ swapped_in es x d first (omega (arith, full, ring.first_within)) ∙ rw (le-ltb (length es) 256 full) refl
