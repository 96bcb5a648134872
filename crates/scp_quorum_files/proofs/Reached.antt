-- Some element of a list that has one more.
use Rattle.std.proofs.Common.{◌≡◌, ℕ, zero, suc, ◌+◌, ◌<◌, Bool, true, cond, List, [], ◌∷◌, ◌++◌, take, length, get_or, Option, Some, arith, sym, ap, ◌∙◌, subst, ◌⊎◌, inl, inr}
use Rattle.std.specs.Prelude.{◌↔◌}
use Rattle.std.specs.List.{Any}
use Rattle.std.specs.BTreeMap.{is_at}
use Rattle.std.proofs.lemmas.Bool.{cases_Bool}
use Rattle.std.proofs.lemmas.Grind.{common_steps}
use Rattle.std.proofs.lemmas.List.{take_more}
use Rattle.std.proofs.lemmas.List.Quantifiers.{Any-push}
use Rattle.std.proofs.lemmas.Map.Text.{is_eq-slice_cmp}
use Rattle.std.proofs.lemmas.Option.{same_Some, slice_get-get_or, get_or_from_slice_get}
use Rattle.scp_quorum_search.specs.scp_types.specs.declared.names.NodeId.{NodeId}
use Rattle.scp_quorum_search.specs.scp_quorum.specs.NodeSet.{node_cmp}
use Rattle.scp_quorum_files.proofs.Once.{eq_itself, eq_same}

pub any_kept : {X : Type 0} (P : X → Type 0) (xs : List X) (y : X) → Any P xs → Any P (xs ++ y ∷ [])
any_kept P xs y (k, x, lt, at, holds) = (k, x, grind (arith, common_steps), grind (arith, common_steps), holds)

any_behind : {X : Type 0} (P : X → Type 0) (x : X) (xs : List X) → Any P xs → Any P (x ∷ xs)
any_behind P x xs (k, y, lt, at, holds) = (suc k, y, omega arith, at, holds)

pub any_push_cases : {X : Type 0} (P : X → Type 0) (xs : List X) (y : X) → Any P (xs ++ y ∷ []) → Any P xs ⊎ P y
any_push_cases P [] y (zero, x, lt, at, holds) = inr (subst P (sym at) holds)
any_push_cases P [] y (suc k, x, lt, at, holds) = absurd (omega arith)
any_push_cases P (z ∷ zs) y (zero, x, lt, at, holds) = inl (zero, x, omega arith, at, holds)
any_push_cases P (z ∷ zs) y (suc k, x, lt, at, holds) =
    elim (any_push_cases P zs y (k, x, omega arith, at, holds)) [
      | inl old ↦ inl (any_behind P z zs old)
      | inr last ↦ inr last
    ]

pub node_same : (node v : NodeId) → is_at (node_cmp node) v ≡ true → node ≡ v
node_same node v e = ap (λ (bytes : List ℕ). let n : NodeId = record { 0 = bytes } in n) (eq_same node.0 v.0 (sym (is_eq-slice_cmp node.0 v.0) ∙ e))

pub node_itself : (node : NodeId) → is_at (node_cmp node) node ≡ true
node_itself node = is_eq-slice_cmp node.0 node.0 ∙ eq_itself node.0

pub found_more : {X : Type 0} (named : X → Option NodeId) (names : List X) (i : ℕ) (x : X) (node : NodeId) (old new : NodeId → Bool) → i < length names → x ≡ get_or names i x → named x ≡ Some node
    → ((v : NodeId) → new v ≡ cond (is_at (node_cmp node) v) true (old v)) → ((v : NodeId) → (old v ≡ true) ↔ Any (λ y. named y ≡ Some v) (take i names))
    → (v : NodeId) → (new v ≡ true) ↔ Any (λ y. named y ≡ Some v) (take (i + 1) names)
found_more named names i x node old new lt is here updates so_far v =
    let one : take i names ++ x ∷ [] ≡ take (i + 1) names = ap (λ n. take i names ++ n ∷ []) is ∙ sym (take_more names i x lt) in
    let P : _ → Type 0 = λ y. named y ≡ Some v in
    let Q : List _ → Type 0 = λ ys. Any (λ y. named y ≡ Some v) ys in
    (λ has. subst Q one (there has), λ any. back (any_push_cases P (take i names) x (subst Q (sym one) any)))
  where
    there : new v ≡ true → Any (λ y. named y ≡ Some v) (take i names ++ x ∷ [])
    there has =
        elim (cases_Bool (is_at (node_cmp node) v)) [
          | inl at ↦ Any-push (λ y. named y ≡ Some v) (take i names) x (here ∙ ap Some (node_same node v at))
          | inr off ↦ any_kept (λ y. named y ≡ Some v) (take i names) x ((so_far v).0 (sym (ap (λ b. cond b true (old v)) off) ∙ sym (updates v) ∙ has))
        ]

    back : Any (λ y. named y ≡ Some v) (take i names) ⊎ (named x ≡ Some v) → new v ≡ true
    back (inl old_one) =
        elim (cases_Bool (is_at (node_cmp node) v)) [
          | inl at ↦ updates v ∙ ap (λ b. cond b true (old v)) at
          | inr off ↦ updates v ∙ ap (λ b. cond b true (old v)) off ∙ (so_far v).1 old_one
        ]
    back (inr this) =
        let same : node ≡ v = same_Some node v (sym here ∙ this) in
        let Q : NodeId → Type 0 = λ w. is_at (node_cmp node) w ≡ true in
        updates v ∙ ap (λ b. cond b true (old v)) (subst Q same (node_itself node))

-- the same, where the element is read with a default
pub found_at : {X : Type 0} (named : X → Option NodeId) (names : List X) (i : ℕ) (d : X) (node : NodeId) (old new : NodeId → Bool) → i < length names → named (get_or names i d) ≡ Some node
    → ((v : NodeId) → new v ≡ cond (is_at (node_cmp node) v) true (old v)) → ((v : NodeId) → (old v ≡ true) ↔ Any (λ y. named y ≡ Some v) (take i names))
    → (v : NodeId) → (new v ≡ true) ↔ Any (λ y. named y ≡ Some v) (take (i + 1) names)
found_at named names i d node old new lt here updates so_far =
    let x = get_or names i d in
    found_more named names i x node old new lt (sym (get_or_from_slice_get names i x x (slice_get-get_or names i d lt))) here updates so_far
