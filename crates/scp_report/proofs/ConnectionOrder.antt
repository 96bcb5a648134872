-- The connections of a journal in their order.
use Rattle.std.proofs.Common.{◌≡◌, Bool, true, false, ◌||◌, List, [], ◌∷◌, refl, sym, ◌∙◌, ap, fold}
use Rattle.std.specs.List.{list_any, AllByRecursion}
use Rattle.std.specs.List.Sorted.{IsStrictlySortedBy}
use Rattle.std.specs.Ordering.{is_eq, ordering_reverse, match_ordering}
use Rattle.std.specs.declared.cmp.Ordering.TheVariants.{Less, Equal, Greater}
use Rattle.std.specs.Cmp.{IsTotalOrder}
use Rattle.std.proofs.lemmas.Cmp.{nat_cmp_total, nat_list_cmp_total, on_total, then_total}
use Rattle.std.specs.BTreeSet.{insert_key}
use Rattle.scp_core.specs.scp_types.specs.declared.names.ConnId.{ConnId}
use Rattle.scp_core.specs.scp_ledger.specs.declared.journal.Fate.{Fate}
use Rattle.scp_core.specs.scp_wire.specs.Connections.{same_conn}
use Rattle.scp_report.specs.declared.report.Parked.{Parked}
use Rattle.scp_core.specs.scp_types.specs.Order.{conn_cmp}
use Rattle.scp_core.specs.scp_theorem.specs.Fates.{conn_of}
use Rattle.scp_report.specs.Settled.{conn_parked, conns_of, AreConnections}
use Rattle.scp_report.proofs.Sections.{ties, same_is_equal}

conn_cmp_total : IsTotalOrder conn_cmp
conn_cmp_total = then_total (on_total (λ (c : ConnId). c.from.0) nat_list_cmp_total) (then_total (on_total (λ (c : ConnId). c.to.0) nat_list_cmp_total) (on_total (λ (c : ConnId). c.life) nat_cmp_total))

all_insert : (P : ConnId → Type 0) (xs : List ConnId) (k : ConnId) → AllByRecursion P xs → P k → AllByRecursion P (insert_key conn_cmp xs k)
all_insert P [] k all here = (here, tt)
all_insert P (x ∷ xs) k all here =
    elim (conn_cmp k x) as (λ o. AllByRecursion P (match_ordering o (k ∷ x ∷ xs) (x ∷ xs) (x ∷ insert_key conn_cmp xs k))) [
      | Less ↦ (here, all)
      | Equal ↦ all
      | Greater ↦ (all.0, all_insert P xs k all.1 here)
    ]

all_after : (k x : ConnId) (xs : List ConnId) → conn_cmp k x ≡ Less → AllByRecursion (λ y. conn_cmp x y ≡ Less) xs → AllByRecursion (λ y. conn_cmp k y ≡ Less) xs
all_after k x [] less all = tt
all_after k x (y ∷ xs) less all = (conn_cmp_total.trans k x y less all.0, all_after k x xs less all.1)

insert_ascending : (xs : List ConnId) (k : ConnId) → IsStrictlySortedBy conn_cmp xs → IsStrictlySortedBy conn_cmp (insert_key conn_cmp xs k)
unfolding IsStrictlySortedBy
insert_ascending [] k sorted = (tt, tt)
insert_ascending (x ∷ xs) k sorted =
    elim (conn_cmp k x) as (λ o. conn_cmp k x ≡ o → IsStrictlySortedBy conn_cmp (match_ordering o (k ∷ x ∷ xs) (x ∷ xs) (x ∷ insert_key conn_cmp xs k))) [
      | Less ↦ λ e. ((e, all_after k x xs e sorted.0), sorted)
      | Equal ↦ λ e. sorted
      | Greater ↦ λ e. (all_insert (λ y. conn_cmp x y ≡ Less) xs k sorted.0 (conn_cmp_total.antisymm x k ∙ ap ordering_reverse e), insert_ascending xs k sorted.1)
    ] refl

-- items whose connections are put in
abbrev put_in : {X : Type 0} → (X → ConnId) → List ConnId → List X → List ConnId
put_in key conns items = fold (λ conns item. insert_key conn_cmp conns (key item)) conns items

fold_ascending : {X : Type 0} (key : X → ConnId) (conns : List ConnId) (items : List X) → IsStrictlySortedBy conn_cmp conns → IsStrictlySortedBy conn_cmp (put_in key conns items)
fold_ascending key conns [] sorted = sorted
fold_ascending key conns (item ∷ items) sorted = fold_ascending key (insert_key conn_cmp conns (key item)) items (insert_ascending conns (key item) sorted)

or_last : (a b c : Bool) → (a || (b || c)) ≡ ((b || c) || a)
or_last true true c = refl
or_last true false true = refl
or_last true false false = refl
or_last false true c = refl
or_last false false true = refl
or_last false false false = refl

or_again : (a b : Bool) → (a || b) ≡ ((a || b) || a)
or_again true b = refl
or_again false true = refl
or_again false false = refl

or_deep : (a b c : Bool) → (a || (b || c)) ≡ ((a || b) || c)
or_deep true b c = refl
or_deep false b c = refl

any_insert : (test : ConnId → Bool) (xs : List ConnId) (k : ConnId) → list_any test (insert_key conn_cmp xs k) ≡ (list_any test xs || test k)
any_insert test [] k = elim (test k) as (λ b. (b || false) ≡ (false || b)) [ true ↦ refl | false ↦ refl ]
any_insert test (x ∷ xs) k =
    elim (conn_cmp k x) as (λ o. conn_cmp k x ≡ o → list_any test (match_ordering o (k ∷ x ∷ xs) (x ∷ xs) (x ∷ insert_key conn_cmp xs k)) ≡ (list_any test (x ∷ xs) || test k)) [
      | Less ↦ λ e. or_last (test k) (test x) (list_any test xs)
      | Equal ↦ λ e. or_again (test x) (list_any test xs) ∙ ap (λ c. (test x || list_any test xs) || test c) (sym (same_is_equal k x (sym (ties k x) ∙ ap is_eq e)))
      | Greater ↦ λ e. ap (λ b. test x || b) (any_insert test xs k) ∙ or_deep (test x) (list_any test xs) (test k)
    ] refl

fold_any : {X : Type 0} (key : X → ConnId) (test : ConnId → Bool) (conns : List ConnId) (items : List X) → list_any test (put_in key conns items) ≡ (list_any test conns || list_any (λ item. test (key item)) items)
fold_any key test conns [] = elim (list_any test conns) as (λ b. b ≡ (b || false)) [ true ↦ refl | false ↦ refl ]
fold_any key test conns (item ∷ items) =
    fold_any key test (insert_key conn_cmp conns (key item)) items
    ∙ ap (λ b. b || list_any (λ f. test (key f)) items) (any_insert test conns (key item))
    ∙ sym (or_deep (list_any test conns) (test (key item)) (list_any (λ f. test (key f)) items))

none_ascending : IsStrictlySortedBy conn_cmp []
unfolding IsStrictlySortedBy
none_ascending = tt

pub are_connections : (journal : List Fate) (parked : List Parked) → AreConnections journal parked (conns_of journal parked)
are_connections journal parked = record {
  ascending = fold_ascending conn_parked (put_in conn_of [] journal) parked (fold_ascending conn_of [] journal none_ascending);
  those = λ conn. fold_any conn_parked (λ c. same_conn c conn) (put_in conn_of [] journal) parked ∙ ap (λ b. b || list_any (λ waiting. same_conn (conn_parked waiting) conn) parked) (fold_any conn_of (λ c. same_conn c conn) [] journal);
}
