-- The nodes in turn, and the leaders.
use Rattle.std.proofs.Common.{◌≡◌, ◌+◌, ◌<◌, ◌≤◌, ◌↔◌, ℕ, zero, suc, List, [], ◌∷◌, length, get_or, refl, sym, ◌∙◌, ap, subst, ◌⊎◌, inl, inr, arith, Contains}
use Rattle.scp_nominate.proofs.Options.{some_same}
use Rattle.std.proofs.lemmas.Option.{slice_get-get_or}
use Rattle.std.specs.List.{HoldsAt}
use Rattle.std.specs.List.Sorted.{IsSearchInRange}
use Rattle.std.proofs.Common.{Result, Ok, Err, IfOk, IfErr}
use Rattle.std.proofs.Common.{true, Bool, Some, slice_get, ◌++◌}
use Rattle.std.specs.List.{insert, dedup}
use Rattle.std.specs.List.Sorted.{IsPermutation, IsSorted, IsStrictlySortedBy}
use Rattle.std.specs.Cmp.{IsTotalOrder, IsEquivalence}
use Rattle.std.proofs.lemmas.Cmp.{on_total, nat_list_cmp_total}
use Rattle.std.specs.Ordering.{is_eq, eq_by_cmp}
use Rattle.std.proofs.lemmas.List.Sorted.{Contains-permutation, IsPermutation-sym}
use Rattle.std.proofs.lemmas.List.Kept.{IsStrictlySortedBy-dedup, Contains-dedup, Contains-from_dedup}
use Rattle.std.specs.declared.cmp.Ordering.{Ordering}
use Rattle.scp_vote.specs.scp_quorum.specs.QuorumTree.{QuorumTree}
use Rattle.scp_vote.specs.scp_quorum.specs.Sane.{all_nodes}
use Rattle.std.proofs.lemmas.Bool.{cases_lt}
use Rattle.scp_nominate.specs.Turns.{AreInTurn, Leads}
use Rattle.std.specs.declared.cmp.Ordering.TheVariants.{Less, Equal, Greater}
use Rattle.std.proofs.lemmas.Map.Lookups.{exact_bytes}
use Rattle.scp_vote.specs.scp_types.specs.declared.names.NodeId.{NodeId}
use Rattle.scp_vote.specs.scp_quorum.specs.NodeSet.{node_cmp}

module _ {X : Type 0} where
  more : (y : X) (ys : List X) (w : X) → Contains ys w → Contains (y ∷ ys) w
  more y ys w h = (suc h.0, omega (arith, h.1), h.2)

  cases : (y : X) (ys : List X) (w : X) → Contains (y ∷ ys) w → (y ≡ w) ⊎ Contains ys w
  cases y ys w (zero, lt, e) = inl e
  cases y ys w (suc k, lt, e) = inr (k, omega arith, e)

  keeps : (xs : List X) (i : ℕ) (x w : X) → Contains xs w → Contains (insert xs i x) w
  keeps xs zero x w h = more x xs w h
  keeps [] (suc i) x w h = absurd (omega (arith, h.1))
  keeps (y ∷ ys) (suc i) x w h = elim (cases y ys w h) [ inl e ↦ (0, omega arith, e) | inr m ↦ more y (insert ys i x) w (keeps ys i x w m) ]

  has : (xs : List X) (i : ℕ) (x : X) → Contains (insert xs i x) x
  has xs zero x = (0, omega arith, refl)
  has [] (suc i) x = (0, omega arith, refl)
  has (y ∷ ys) (suc i) x = more y (insert ys i x) x (has ys i x)

  only : (xs : List X) (i : ℕ) (x w : X) → Contains (insert xs i x) w → Contains xs w ⊎ (x ≡ w)
  only xs zero x w h = elim (cases x xs w h) [ inl e ↦ inr e | inr m ↦ inl m ]
  only [] (suc i) x w h = elim (cases x [] w h) [ inl e ↦ inr e | inr m ↦ inl m ]
  only (y ∷ ys) (suc i) x w h = elim (cases y (insert ys i x) w h) [
    | inl e ↦ inl (0, omega arith, e)
    | inr m ↦ elim (only ys i x w m) [ inl k ↦ inl (more y ys w k) | inr e ↦ inr e ]
  ]

  pub inserted : (xs ys : List X) (i : ℕ) (x : X) → ys ≡ insert xs i x → (w : X) → Contains ys w ↔ (Contains xs w ⊎ (x ≡ w))
  inserted xs ys i x e w = (
    λ h. only xs i x w (subst (λ zs. Contains zs w) e h),
    λ h. subst (λ zs. Contains zs w) (sym e) (elim h [ inl k ↦ keeps xs i x w k | inr same ↦ subst (λ v. Contains (insert xs i x) v) same (has xs i x) ]),
  )

  pub there : (xs : List X) (x : X) → Contains xs x → (w : X) → Contains xs w ↔ (Contains xs w ⊎ (x ≡ w))
  there xs x had w = (λ h. inl h, λ h. elim h [ inl k ↦ k | inr same ↦ subst (λ v. Contains xs v) same had ])

pub same_node : (v w : NodeId) → node_cmp v w ≡ Equal → v ≡ w
same_node v w e = ap (λ bytes. let n : NodeId = record { 0 = bytes } in n) (exact_bytes v.0 w.0 e)

pub found_node : (xs : List NodeId) (x : NodeId) (i : ℕ) → i < length xs → ((d : NodeId) → node_cmp (get_or xs i d) x ≡ Equal) → Contains xs x
found_node xs x i lt e = (i, lt, same_node (get_or xs i x) x (e x))

pub node_cmp_total : IsTotalOrder node_cmp
node_cmp_total = on_total (λ (v : NodeId). v.0) nat_list_cmp_total

is_equal : (o : Ordering) → is_eq o ≡ true → o ≡ Equal
is_equal Less e = cc
is_equal Equal e = refl
is_equal Greater e = cc

in_append : {X : Type 0} (xs ys : List X) (v : X) → Contains (xs ++ ys) v → Contains xs v ⊎ Contains ys v
in_append [] ys v h = inr h
in_append (x ∷ xs) ys v h = elim (cases x (xs ++ ys) v h) [ inl e ↦ inl (0, omega arith, e) | inr k ↦ elim (in_append xs ys v k) [ inl a ↦ inl (more x xs v a) | inr b ↦ inr b ] ]

append_left : {X : Type 0} (xs ys : List X) (v : X) → Contains xs v → Contains (xs ++ ys) v
append_left [] ys v h = absurd (omega (arith, h.1))
append_left (x ∷ xs) ys v h = elim (cases x xs v h) [ inl e ↦ (0, omega arith, e) | inr k ↦ more x (xs ++ ys) v (append_left xs ys v k) ]

append_right : {X : Type 0} (xs ys : List X) (v : X) → Contains ys v → Contains (xs ++ ys) v
append_right [] ys v h = h
append_right (x ∷ xs) ys v h = more x (xs ++ ys) v (append_right xs ys v h)

pub in_turn : (E : NodeId → NodeId → Bool) → IsEquivalence E → ((x y : NodeId) → E x y ≡ eq_by_cmp node_cmp x y) → (me : NodeId) (set : QuorumTree) (all pushed sorted left : List NodeId)
    → all ≡ all_nodes set → pushed ≡ all ++ me ∷ [] → IsPermutation pushed sorted → IsSorted node_cmp sorted → left ≡ dedup E sorted → AreInTurn me set left
in_turn E equiv ties me set all pushed sorted left a p moved up d = record {
  ascending = subst (λ xs. IsStrictlySortedBy node_cmp xs) (sym d) (IsStrictlySortedBy-dedup node_cmp_total ties sorted up);
  all = λ v. (
    λ h. elim (in_append all (me ∷ []) v (subst (λ xs. Contains xs v) p (Contains-permutation sorted pushed v (IsPermutation-sym pushed sorted moved) (Contains-from_dedup E sorted v (subst (λ xs. Contains xs v) d h))))) [
      | inl k ↦ inr (subst (λ xs. Contains xs v) a k)
      | inr k ↦ elim (cases me [] v k) [ inl e ↦ inl (sym e) | inr none ↦ absurd (omega (arith, none.1)) ]
    ],
    λ h. subst (λ xs. Contains xs v) (sym d) (Contains-dedup equiv (λ x y e. same_node x y (is_equal (node_cmp x y) (sym (ties x y) ∙ e))) sorted v (Contains-permutation pushed sorted v moved (subst (λ xs. Contains xs v) (sym p) (elim h [
      | inl e ↦ append_right all (me ∷ []) v (0, omega arith, sym e)
      | inr k ↦ append_left all (me ∷ []) v (subst (λ xs. Contains xs v) (sym a) k)
    ])))),
  );
}

pub node_found : (xs : List NodeId) (x : NodeId) (r : Result ℕ ℕ) → IsSearchInRange r (length xs) → IfOk r (HoldsAt (λ y. node_cmp y x ≡ Equal) xs) → IfOk r (λ at. Contains xs x)
node_found xs x (Ok i) bound ok = found_node xs x i bound ok
node_found xs x (Err i) bound ok = tt

pub node_within : (n : ℕ) (r : Result ℕ ℕ) → IsSearchInRange r n → IfErr r (λ at. at ≤ n)
node_within n (Ok i) bound = tt
node_within n (Err i) bound = bound

pub led : (xs : List NodeId) (k m : ℕ) (d : NodeId) (N O : NodeId → Type 0) → k < length xs → k ≡ m → ((v : NodeId) → N v ↔ (O v ⊎ (get_or xs k d ≡ v))) → (v : NodeId) → N v ↔ (O v ⊎ (slice_get xs m ≡ Some v))
led xs k m d N O lt same added v =
    let at : slice_get xs m ≡ Some (get_or xs k d) = ap (slice_get xs) (sym same) ∙ slice_get-get_or xs k d lt in (
      λ h. elim ((added v).0 h) [ inl o ↦ inl o | inr e ↦ inr (at ∙ ap Some e) ],
      λ h. (added v).1 (elim h [ inl o ↦ inl o | inr e ↦ inr (some_same (slice_get xs m) (get_or xs k d) v at e) ]),
    )

pub more_leads : (place : ℕ → ℕ → ℕ) (nodes : List NodeId) (rounds : ℕ) (N O : NodeId → Type 0) → ((v : NodeId) → O v ↔ Leads place nodes rounds v) → ((v : NodeId) → N v ↔ (O v ⊎ (slice_get nodes (place (rounds + 1) (length nodes)) ≡ Some v))) → (v : NodeId) → N v ↔ Leads place nodes (rounds + 1) v
more_leads place nodes rounds N O old added v = (
  λ h. elim ((added v).0 h) [
    | inl o ↦ let l = (old v).0 o in (l.0, l.1, omega (arith, l.2), l.3)
    | inr e ↦ (rounds + 1, omega arith, omega arith, e)
  ],
  λ l. (added v).1 (elim (cases_lt l.0 (rounds + 1)) [
    | inl lt ↦ inl ((old v).1 (l.0, l.1, omega (arith, lt), l.3))
    | inr ge ↦ let same : l.0 ≡ rounds + 1 = omega (arith, ge, l.2) in inr (subst (λ r. slice_get nodes (place r (length nodes)) ≡ Some v) same l.3)
  ]),
)

pub first_leads : (place : ℕ → ℕ → ℕ) (nodes xs : List NodeId) (N : NodeId → Type 0) → xs ≡ [] → ((v : NodeId) → N v ↔ (Contains xs v ⊎ (slice_get nodes (place 1 (length nodes)) ≡ Some v))) → (v : NodeId) → N v ↔ Leads place nodes 1 v
first_leads place nodes xs N none added =
    more_leads place nodes 0 N (λ v. Contains xs v) (λ v. (
      λ h. absurd (let l : length xs ≡ 0 = ap length none in omega (arith, h.1)),
      λ l. absurd (omega (arith, l.1, l.2)),
    )) added

pub some_turn : (me : NodeId) (set : QuorumTree) (nodes xs : List NodeId) → xs ≡ nodes → AreInTurn me set nodes → 1 ≤ length xs
some_turn me set nodes xs e turns = let has = (turns.all me).1 (inl refl) in let l : length xs ≡ length nodes = ap length e in omega (arith, has.1, l)
