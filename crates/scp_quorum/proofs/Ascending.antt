-- Sorting nodes brings equal ones together.
use Rattle.std.proofs.Common.{◌≡◌, ℕ, zero, suc, ◌+◌, ◌-◌, ◌<◌, ◌≤◌, Bool, true, false, List, [], ◌∷◌, length, get_or, arith, refl, sym, ◌∙◌, ap}
use Rattle.std.specs.Prelude.{IsTrue, ◌↔◌}
use Rattle.std.specs.Cmp.{IsTotalOrder}
use Rattle.std.specs.List.{IsDistinct, AllAdjacentBelow}
use Rattle.std.specs.List.Sorted.{IsPermutation, IsSorted, IsStrictlySortedBy}
use Rattle.std.specs.Ordering.{eq_by_cmp, is_eq, is_lt, is_ge, ordering_reverse}
use Rattle.std.specs.declared.cmp.Ordering.{Ordering}
use Rattle.std.specs.declared.cmp.Ordering.TheVariants.{Less, Equal, Greater}
use Rattle.std.proofs.lemmas.Cmp.{on_total, nat_list_cmp_total}
use Rattle.std.proofs.lemmas.List.Sorted.{IsPermutation-sym, all_adjacent_more}
use Rattle.std.proofs.lemmas.Map.Keys.{IsDistinct-from_sorted, IsDistinct-IsPermutation, apart_from_distinct, sorted_from_all_adjacent, Less-from_sorted}
use Rattle.scp_xdr.specs.scp_types.specs.declared.names.NodeId.{NodeId}
use Rattle.scp_quorum.specs.NodeSet.{node_cmp}

pub node_cmp_total : IsTotalOrder node_cmp
node_cmp_total = on_total (λ (v : NodeId). v.0) nat_list_cmp_total

abbrev no_node : NodeId
no_node = record { 0 = [] }

reversed_eq : (o : Ordering) → is_eq (ordering_reverse o) ≡ is_eq o
reversed_eq Less = refl
reversed_eq Equal = refl
reversed_eq Greater = refl

flips : (x y : NodeId) → eq_by_cmp node_cmp x y ≡ eq_by_cmp node_cmp y x
flips x y = ap is_eq (node_cmp_total.antisymm x y) ∙ reversed_eq (node_cmp y x)

below : (o p : Ordering) → o ≡ ordering_reverse p → is_eq o ≡ false → is_lt p ≡ false → o ≡ Less
below Less p e apart up = refl
below Equal p e apart up = cc
below Greater Less e apart up = cc
below Greater Equal e apart up = cc
below Greater Greater e apart up = cc

-- nodes that are sorted, and of which no two are equal, ascend
ascend : (vs : List NodeId) → IsSorted node_cmp vs → IsDistinct (eq_by_cmp node_cmp) vs → IsStrictlySortedBy node_cmp vs
ascend vs sorted distinct =
    sorted_from_all_adjacent node_cmp_total vs no_node
    (λ k h. below _ _ (node_cmp_total.antisymm (get_or vs k no_node) (get_or vs (k + 1) no_node)) (apart_from_distinct (eq_by_cmp node_cmp) vs k (k + 1) no_node distinct (omega arith) h) (sorted k no_node (omega arith) h))

pub distinct_decided : (b : Bool) (old new : List NodeId) → IsPermutation old new → IsSorted node_cmp new → (IsTrue b ↔ IsStrictlySortedBy node_cmp new) → (IsTrue b ↔ IsDistinct (eq_by_cmp node_cmp) old)
distinct_decided b old new moved sorted decided = (
  λ t. IsDistinct-IsPermutation (eq_by_cmp node_cmp) flips new old (IsPermutation-sym old new moved) (IsDistinct-from_sorted node_cmp new (decided.0 t)),
  λ d. decided.1 (ascend new sorted (IsDistinct-IsPermutation (eq_by_cmp node_cmp) flips old new moved d)),
)

pub all_ascend : (vs : List NodeId) (i : ℕ) → length vs ≤ i → AllAdjacentBelow (λ x y. node_cmp x y ≡ Less) vs i → IsStrictlySortedBy node_cmp vs
all_ascend vs i le up = sorted_from_all_adjacent node_cmp_total vs no_node (λ k h. up k no_node (omega arith))

same_node : (vs : List NodeId) (i : ℕ) (d e : NodeId) → i < length vs → get_or vs i d ≡ get_or vs i e
same_node [] i d e h = absurd (omega arith)
same_node (v ∷ vs) zero d e h = refl
same_node (v ∷ vs) (suc i) d e h = same_node vs i d e (omega arith)

less : (o : Ordering) → is_ge o ≡ false → o ≡ Less
less Less e = refl
less Equal e = cc
less Greater e = cc

not_less : (o : Ordering) → is_ge o ≡ true → o ≡ Less → ⊥
not_less Less e f = let g : false ≡ true = e in cc
not_less Equal e f = cc
not_less Greater e f = cc

pub one_more : (vs : List NodeId) (i : ℕ) (d : NodeId) (o : Ordering) → 1 ≤ i → i < length vs → AllAdjacentBelow (λ x y. node_cmp x y ≡ Less) vs i → o ≡ node_cmp (get_or vs (i - 1) d) (get_or vs i d) → is_ge o ≡ false → AllAdjacentBelow (λ x y. node_cmp x y ≡ Less) vs (i + 1)
one_more vs i d o some lt up is fails =
    let here : node_cmp (get_or vs (i - 1) d) (get_or vs i d) ≡ Less = sym is ∙ less o fails in
    all_adjacent_more vs (λ x y. node_cmp x y ≡ Less) i (omega arith) up
    (λ e.
    let one : get_or vs (i - 1) e ≡ get_or vs (i - 1) d = same_node vs (i - 1) e d (omega arith) in
    let two : get_or vs i e ≡ get_or vs i d = same_node vs i e d lt in
    rw (one, two) here)

pub not_ascending : (vs : List NodeId) (i : ℕ) (d : NodeId) (o : Ordering) → 1 ≤ i → i < length vs → o ≡ node_cmp (get_or vs (i - 1) d) (get_or vs i d) → is_ge o ≡ true → IsStrictlySortedBy node_cmp vs → ⊥
not_ascending vs i d o some lt is holds up = not_less o holds (is ∙ Less-from_sorted node_cmp vs (i - 1) i d up (omega arith) lt)
