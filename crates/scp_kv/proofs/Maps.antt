-- A tree's entries and the finite map that they are seen as.
use Rattle.std.proofs.Common.{◌≡◌, ◌≢◌, ℕ, Bool, true, false, cond, List, [], ◌∷◌, length, Option, Some, None, Result, Ok, Err, refl, sym, ap, ◌∙◌, arith}
use Rattle.std.specs.Prelude.{T, ◌&&◌, OnErr}
use Rattle.std.specs.Ordering.{nat_cmp, is_eq, eq_by_cmp}
use Rattle.std.specs.Cmp.{eq_by_cmp_equiv}
use Rattle.std.specs.FinMap.Entries.{below_all}
use Rattle.std.specs.declared.cmp.Ordering.TheVariants.{Less, Equal, Greater}
use Rattle.std.specs.Cmp.Lexicographic.{slice_cmp, nat_list_cmp_total}
use Rattle.std.specs.List.{AllByRecursion}
use Rattle.std.specs.List.Sorted.{IsStrictlySortedBy}
use Rattle.std.specs.Map.{keys_of, lookup}
use Rattle.std.specs.BTreeMap as tree
use Rattle.std.specs.BTreeMap.{BTreeMap}
use Rattle.std.specs.FinMap as map
use Rattle.std.specs.FinMap.{find, is_sorted, from_entries, from_sorted, same_map, get-from_entries, get-from_sorted, get-insert, get-remove, get-empty, entries-from_sorted, len-entries}
use Rattle.std.proofs.lemmas.Map.Lookups.{exact_bytes}
use Rattle.scp_kv.specs.Map.{KvMap}

-- the map that a tree's entries are seen as
abbrev pub seen : List (List ℕ × List ℕ) → KvMap
seen es = from_entries es

-- what the tree's look-up finds is what the map has
find-lookup : (q : List ℕ) (es : List (List ℕ × List ℕ)) → find (slice_cmp nat_cmp) q es ≡ lookup (tree.is_at (slice_cmp nat_cmp q)) es
find-lookup q [] = refl
find-lookup q (e ∷ es) = ap (cond (eq_by_cmp (slice_cmp nat_cmp) q e.0) (Some e.1)) (find-lookup q es)

pub get-seen : (es : List (List ℕ × List ℕ)) (q : List ℕ) → map.get (seen es) q ≡ lookup (tree.is_at (slice_cmp nat_cmp q)) es
get-seen es q = get-from_entries nat_list_cmp_total es q ∙ find-lookup q es

-- maps that answer alike
alike : (m n : KvMap) → ((q : List ℕ) → map.get m q ≡ map.get n q) → m ≡ n
alike m n same = same_map nat_list_cmp_total exact_bytes m n same

tied : (k q : List ℕ) → eq_by_cmp (slice_cmp nat_cmp) k q ≡ eq_by_cmp (slice_cmp nat_cmp) q k
tied k q = (eq_by_cmp_equiv nat_list_cmp_total).symm k q

-- ---- a change of the tree is the change of the map

pub seen_insert : (m n : BTreeMap (List ℕ) (List ℕ)) (k v : List ℕ) → tree.Updates (slice_cmp nat_cmp) m n k (Some v) → seen n.entries ≡ map.insert (seen m.entries) k v
seen_insert m n k v u = alike (seen n.entries) (map.insert (seen m.entries) k v) (λ q.
    get-seen n.entries q ∙ u.0 q
    ∙ ap (λ (b : Bool). cond b (Some v) (tree.get (slice_cmp nat_cmp) m q)) (tied k q)
    ∙ ap (cond (eq_by_cmp (slice_cmp nat_cmp) q k) (Some v)) (sym (get-seen m.entries q))
    ∙ sym (get-insert nat_list_cmp_total (seen m.entries) k v q))

pub seen_remove : (m n : BTreeMap (List ℕ) (List ℕ)) (k : List ℕ) → tree.Updates (slice_cmp nat_cmp) m n k None → seen n.entries ≡ map.remove (seen m.entries) k
seen_remove m n k u = alike (seen n.entries) (map.remove (seen m.entries) k) (λ q.
    get-seen n.entries q ∙ u.0 q
    ∙ ap (λ (b : Bool). cond b None (tree.get (slice_cmp nat_cmp) m q)) (tied k q)
    ∙ ap (cond (eq_by_cmp (slice_cmp nat_cmp) q k) None) (sym (get-seen m.entries q))
    ∙ sym (get-remove nat_list_cmp_total (seen m.entries) k q))

-- ---- in order

is_below : (k : List ℕ) (es : List (List ℕ × List ℕ)) → AllByRecursion (λ y. slice_cmp nat_cmp k y ≡ Less) (keys_of es) → T (below_all (slice_cmp nat_cmp) k es)
is_below k [] h = tt
is_below k (e ∷ es) h = rw h.0 (is_below k es h.1)

rises : (es : List (List ℕ × List ℕ)) → IsStrictlySortedBy (slice_cmp nat_cmp) (keys_of es) → T (is_sorted (slice_cmp nat_cmp) es)
unfolding IsStrictlySortedBy
rises [] h = tt
rises (e ∷ es) h = both (below_all (slice_cmp nat_cmp) e.0 es) (is_sorted (slice_cmp nat_cmp) es) (is_below e.0 es h.0) (rises es h.1)
  where
    both : (a b : Bool) → T a → T b → T (a && b)
    both true b p q = q
    both false b p q = p

pub entries-sorted : (es : List (List ℕ × List ℕ)) → T (is_sorted (slice_cmp nat_cmp) es) → map.entries (seen es) ≡ es
entries-sorted es h =
    let same : seen es ≡ from_sorted es = alike (seen es) (from_sorted es) (λ q. get-from_entries nat_list_cmp_total es q ∙ sym (get-from_sorted (slice_cmp nat_cmp) es q h)) in
    ap map.entries same ∙ entries-from_sorted (slice_cmp nat_cmp) es h

pub entries-seen : (es : List (List ℕ × List ℕ)) → IsStrictlySortedBy (slice_cmp nat_cmp) (keys_of es) → map.entries (seen es) ≡ es
entries-seen es ordered = entries-sorted es (rises es ordered)

pub len-seen : (es : List (List ℕ × List ℕ)) → IsStrictlySortedBy (slice_cmp nat_cmp) (keys_of es) → map.len (seen es) ≡ length es
len-seen es ordered = len-entries (seen es) ∙ ap length (entries-seen es ordered)

pub seen_empty : (es : List (List ℕ × List ℕ)) → length es ≡ 0 → seen es ≡ map.empty
seen_empty [] e = refl
seen_empty (x ∷ es) e = absurd (omega arith)

-- ---- one key

same_key : (k : List ℕ) → eq_by_cmp (slice_cmp nat_cmp) k k ≡ true
same_key k = (eq_by_cmp_equiv nat_list_cmp_total).refl k

other_key : (q k : List ℕ) → q ≢ k → eq_by_cmp (slice_cmp nat_cmp) q k ≡ false
other_key q k apart =
    elim (slice_cmp nat_cmp q k) as (λ o. slice_cmp nat_cmp q k ≡ o → is_eq o ≡ false) [
      | Less ↦ λ e. refl
      | Equal ↦ λ e. absurd (apart (exact_bytes q k e))
      | Greater ↦ λ e. refl
    ] refl

pub get-insert_same : (m : KvMap) (k v : List ℕ) → map.get (map.insert m k v) k ≡ Some v
get-insert_same m k v = get-insert nat_list_cmp_total m k v k ∙ ap (λ (b : Bool). cond b (Some v) (map.get m k)) (same_key k)

pub get-insert_other : (m : KvMap) (k v q : List ℕ) → q ≢ k → map.get (map.insert m k v) q ≡ map.get m q
get-insert_other m k v q apart = get-insert nat_list_cmp_total m k v q ∙ ap (λ (b : Bool). cond b (Some v) (map.get m q)) (other_key q k apart)

pub get-remove_same : (m : KvMap) (k : List ℕ) → map.get (map.remove m k) k ≡ None
get-remove_same m k = get-remove nat_list_cmp_total m k k ∙ ap (λ (b : Bool). cond b None (map.get m k)) (same_key k)

pub get-remove_other : (m : KvMap) (k q : List ℕ) → q ≢ k → map.get (map.remove m k) q ≡ map.get m q
get-remove_other m k q apart = get-remove nat_list_cmp_total m k q ∙ ap (λ (b : Bool). cond b None (map.get m q)) (other_key q k apart)

no_value : (v : List ℕ) (o : Option (List ℕ)) → o ≡ Some v → o ≡ None → ⊥
no_value v o p q = let e : Some v ≡ None = sym p ∙ q in cc

pub empty_seen : (es : List (List ℕ × List ℕ)) → seen es ≡ map.empty → length es ≡ 0
empty_seen [] e = refl
empty_seen (x ∷ es) e = absurd (no_value x.1 (map.get (seen (x ∷ es)) x.0) (get-insert_same (seen es) x.0 x.1) (ap (λ (m : KvMap). map.get m x.0) e ∙ get-empty (slice_cmp nat_cmp) x.0))

-- what holds holds after a refusal
pub at_refusal : {X E : Type 0} (r : Result X E) (P : Type 0) → P → OnErr r P
at_refusal (Ok x) P p = tt
at_refusal (Err e) P p = p
