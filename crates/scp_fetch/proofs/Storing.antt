-- What a store has after one set more.
use Rattle.std.proofs.Common.{Bor, ◌≡◌, ℕ, ◌+◌, ◌<◌, Bool, true, false, cond, List, [], ◌∷◌, ◌++◌, length, take, drop, map, refl, sym, ◌∙◌, ap, subst, arith, zero, suc, length-append, nat_eq, ◌||◌}
use Rattle.std.specs.Prelude.{Option, Some, None, find, option_map, option_copied, nat_lt, if◌then◌else◌, is_some, IfSome}
use Rattle.std.specs.List.{AllByRecursion, IsDistinct}
use Rattle.std.specs.Map.{lookup as lookup_key, keys_of}
use Rattle.std.specs.Cmp.Lexicographic.{pointwise, bytes_decides}
use Rattle.scp_quorum.specs.scp_types.specs.declared.names.Hash.{Hash}
use Rattle.scp_quorum.specs.SharedSet.{SharedSet}
use Rattle.scp_quorum.specs.QuorumKind.{set_hash}
use Rattle.scp_quorum.specs.QuorumTree.{QuorumTree}
use Rattle.scp_fetch.specs.Store.{StoreView, has_hash, lookup, pushed, stored}
use Rattle.scp_fetch.specs.inside.Ring.{Entry, set_at, IsUnderItsHash, turned, placed, next_first, IsRing}
use Rattle.scp_fetch.proofs.Ring.{find_turned, turned_placed}

abbrev view_of : QuorumTree → ℕ → List Entry → StoreView
view_of local first es = record { local = local; others = map set_at (turned first es) }

-- what a look-up in the table gives is what the store has
pub found : (hash : Hash) (local : QuorumTree) (first : ℕ) (es : List Entry) → AllByRecursion IsUnderItsHash es → IsDistinct (pointwise nat_eq) (keys_of es) → pointwise nat_eq hash.0 (set_hash local) ≡ false → option_map (λ (s : SharedSet). s.value) (lookup_key (pointwise nat_eq hash.0) es) ≡ lookup hash (view_of local first es)
found hash local first es a d other = rw other (sym (find_turned hash first es a d))

is_some-map : {X Y : Type 0} (f : X → Y) (r : Option X) → is_some (option_map f r) ≡ is_some r
is_some-map f None = refl
is_some-map f (Some x) = refl

-- whether the table or the local set has the hash
has : (hash : Hash) (local : QuorumTree) (first : ℕ) (es : List Entry) → AllByRecursion IsUnderItsHash es → IsDistinct (pointwise nat_eq) (keys_of es) → is_some (lookup hash (view_of local first es)) ≡ (pointwise nat_eq hash.0 (set_hash local) || is_some (lookup_key (pointwise nat_eq hash.0) es))
has hash local first es a d = by_test (pointwise nat_eq hash.0 (set_hash local))
  where
    by_test : (b : Bool) → is_some (if b then Some local else find (has_hash hash) (map set_at (turned first es))) ≡ (b || is_some (lookup_key (pointwise nat_eq hash.0) es))
    by_test true = refl
    by_test false = ap is_some (find_turned hash first es a d) ∙ is_some-map (λ (s : SharedSet). s.value) (lookup_key (pointwise nat_eq hash.0) es)

pub stored_same : (set local : QuorumTree) (first : ℕ) (es : List Entry) → AllByRecursion IsUnderItsHash es → IsDistinct (pointwise nat_eq) (keys_of es) → (pointwise nat_eq (set_hash set) (set_hash local) || is_some (lookup_key (pointwise nat_eq (set_hash set)) es)) ≡ true → view_of local first es ≡ stored set (view_of local first es)
stored_same set local first es a d e = rw (has (record { 0 = set_hash set }) local first es a d, e) refl

map-append : {X Y : Type 0} (f : X → Y) (xs ys : List X) → map f (xs ++ ys) ≡ map f xs ++ map f ys
map-append f [] ys = refl
map-append f (x ∷ xs) ys = ap (λ zs. f x ∷ zs) (map-append f xs ys)

map-drop_one : {X Y : Type 0} (f : X → Y) (xs : List X) → map f (drop 1 xs) ≡ drop 1 (map f xs)
map-drop_one f [] = refl
map-drop_one f (x ∷ xs) = refl

length-map : {X Y : Type 0} (f : X → Y) (xs : List X) → length (map f xs) ≡ length xs
length-map f [] = refl
length-map f (x ∷ xs) = ap (λ n. suc n) (length-map f xs)

length-turned : {X : Type 0} (n : ℕ) (xs : List X) → length (drop n xs ++ take n xs) ≡ length xs
length-turned zero xs = length-append xs [] ∙ plus_zero (length xs)
  where
    plus_zero : (n : ℕ) → n + 0 ≡ n
    plus_zero n = omega arith
length-turned (suc n) [] = refl
length-turned (suc n) (x ∷ xs) = length-append (drop n xs) (x ∷ take n xs) ∙ one_more (length (drop n xs)) (length (take n xs)) ∙ ap (λ m. suc m) (sym (length-append (drop n xs) (take n xs)) ∙ length-turned n xs)
  where
    one_more : (a b : ℕ) → a + suc b ≡ suc (a + b)
    one_more a b = omega arith

pushed_at : (set : QuorumTree) (others : List QuorumTree) (n : ℕ) → length others ≡ n → pushed set others ≡ (if nat_lt n 256 then others ++ set ∷ [] else drop 1 others ++ set ∷ [])
pushed_at set others n e = ap (λ m. if nat_lt m 256 then others ++ set ∷ [] else drop 1 others ++ set ∷ []) e

placed_sets : (first : ℕ) (x : Entry) (es : List Entry) → IsRing first es → map set_at (turned (next_first first es) (placed first x es)) ≡ pushed (set_at x) (map set_at (turned first es))
placed_sets first x es r =
    ap (map set_at) (turned_placed first x es r)
    ∙ by_test (nat_lt (length es) 256)
    ∙ sym (pushed_at (set_at x) (map set_at (turned first es)) (length es) (length-map set_at (turned first es) ∙ length-turned first es))
  where
    by_test : (b : Bool) → map set_at (if b then turned first es ++ x ∷ [] else drop 1 (turned first es) ++ x ∷ []) ≡ (if b then map set_at (turned first es) ++ set_at x ∷ [] else drop 1 (map set_at (turned first es)) ++ set_at x ∷ [])
    by_test true = map-append set_at (turned first es) (x ∷ [])
    by_test false = map-append set_at (drop 1 (turned first es)) (x ∷ []) ∙ ap (λ zs. zs ++ set_at x ∷ []) (map-drop_one set_at (turned first es))

pub stored_more : (set : SharedSet) (local : QuorumTree) (first : ℕ) (es : List Entry) → AllByRecursion IsUnderItsHash es → IsDistinct (pointwise nat_eq) (keys_of es) → IsRing first es → (pointwise nat_eq (set_hash set.value) (set_hash local) || is_some (lookup_key (pointwise nat_eq (set_hash set.value)) es)) ≡ false
    → view_of local (next_first first es) (placed first (set_hash set.value, set) es) ≡ stored set.value (view_of local first es)
stored_more set local first es a d r e =
    ap (λ (zs : List QuorumTree). record { local = local; others = zs }) (placed_sets first (set_hash set.value, set) es r)
    ∙ rw (has (record { 0 = set_hash set.value }) local first es a d, e) refl

-- ---- what the code has in hand

pub map_copied : (r : Option (Bor SharedSet)) (l : Option SharedSet) → option_copied r ≡ l → option_map (λ (s : Bor SharedSet). s.now.value) r ≡ option_map (λ (s : SharedSet). s.value) l
map_copied None l e = ap (option_map (λ (s : SharedSet). s.value)) e
map_copied (Some x) l e = ap (option_map (λ (s : SharedSet). s.value)) e

hash_under : (h : List ℕ) (es : List Entry) (s : SharedSet) → AllByRecursion IsUnderItsHash es → lookup_key (pointwise nat_eq h) es ≡ Some s → set_hash s.value ≡ h
hash_under h [] s a e = absurd cc
hash_under h (x ∷ xs) s a e = by_test (pointwise nat_eq h x.0) refl e (hash_under h xs s a.1)
  where
    by_test : (b : Bool) → pointwise nat_eq h x.0 ≡ b → cond b (Some x.1) (lookup_key (pointwise nat_eq h) xs) ≡ Some s → (lookup_key (pointwise nat_eq h) xs ≡ Some s → set_hash s.value ≡ h) → set_hash s.value ≡ h
    by_test true is f k =
        let one : x.1 ≡ s = cc in
        ap (λ (t : SharedSet). set_hash t.value) (sym one) ∙ sym a.0 ∙ sym ((bytes_decides h x.0).0 is)
    by_test false is f k = k f

pub copied_under : (h : List ℕ) (es : List Entry) (r : Option (Bor SharedSet)) → AllByRecursion IsUnderItsHash es → option_copied r ≡ lookup_key (pointwise nat_eq h) es → IfSome r (λ s. set_hash s.now.value ≡ h)
copied_under h es None a e = tt
copied_under h es (Some x) a e = hash_under h es x.now a (sym e)

pub none_there : {X : Type 0} (b : Bool) (r : Option X) → (b || is_some r) ≡ false → r ≡ None
none_there true r e = absurd cc
none_there false None e = refl
none_there false (Some x) e = absurd cc

or_left : (a b : Bool) → a ≡ true → (a || b) ≡ true
or_left a b e = rw e refl

or_right : (a b : Bool) → b ≡ true → (a || b) ≡ true
or_right true b e = refl
or_right false b e = e

or_none : (a b : Bool) → a ≡ false → b ≡ false → (a || b) ≡ false
or_none a b e f = rw e f

pub stored_local : (set local : QuorumTree) (first : ℕ) (es : List Entry) → AllByRecursion IsUnderItsHash es → IsDistinct (pointwise nat_eq) (keys_of es) → pointwise nat_eq (set_hash set) (set_hash local) ≡ true → view_of local first es ≡ stored set (view_of local first es)
stored_local set local first es a d e = stored_same set local first es a d (or_left (pointwise nat_eq (set_hash set) (set_hash local)) (is_some (lookup_key (pointwise nat_eq (set_hash set)) es)) e)

pub stored_other : (set local : QuorumTree) (first : ℕ) (es : List Entry) → AllByRecursion IsUnderItsHash es → IsDistinct (pointwise nat_eq) (keys_of es) → (h : List ℕ) → h ≡ set_hash set → is_some (lookup_key (pointwise nat_eq h) es) ≡ true → view_of local first es ≡ stored set (view_of local first es)
stored_other set local first es a d h same e = stored_same set local first es a d (or_right (pointwise nat_eq (set_hash set) (set_hash local)) (is_some (lookup_key (pointwise nat_eq (set_hash set)) es)) (subst (λ (k : List ℕ). is_some (lookup_key (pointwise nat_eq k) es) ≡ true) same e))

pub stored_after : (set : SharedSet) (local : QuorumTree) (first next : ℕ) (es news : List Entry) → AllByRecursion IsUnderItsHash es → IsDistinct (pointwise nat_eq) (keys_of es) → IsRing first es → (h : List ℕ) → h ≡ set_hash set.value → next ≡ next_first first es → news ≡ placed first (h, set) es → pointwise nat_eq (set_hash set.value) (set_hash local) ≡ false → is_some (lookup_key (pointwise nat_eq h) es) ≡ false → view_of local next news ≡ stored set.value (view_of local first es)
stored_after set local first next es news a d r h same n p e f =
    let none : is_some (lookup_key (pointwise nat_eq (set_hash set.value)) es) ≡ false = subst (λ (k : List ℕ). is_some (lookup_key (pointwise nat_eq k) es) ≡ false) same f in
    let news_are : news ≡ placed first (set_hash set.value, set) es = p ∙ ap (λ (k : List ℕ). placed first (k, set) es) same in
    ap (λ (m : ℕ). view_of local m news) n ∙ ap (λ (zs : List Entry). view_of local (next_first first es) zs) news_are
    ∙ stored_more set local first es a d r (or_none (pointwise nat_eq (set_hash set.value) (set_hash local)) (is_some (lookup_key (pointwise nat_eq (set_hash set.value)) es)) e none)
