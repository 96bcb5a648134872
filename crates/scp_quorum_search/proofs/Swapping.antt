-- Nodes that have one quorum set, and are side by side in each, may change places.
use Rattle.std.proofs.Common.{◌≡◌, ℕ, ◌+◌, ◌<◌, Bool, true, false, cond, ◌||◌, nat_le, List, length, get_or, count_by, refl, sym, ◌∙◌, ap, subst, arith, inl, inr}
use Rattle.std.specs.List.{All, Any}
use Rattle.std.proofs.Math.Path.{fun_ext}
use Rattle.std.proofs.lemmas.Bool.{cases_Bool}
use Rattle.scp_quorum.specs.scp_types.specs.declared.names.NodeId.{NodeId}
use Rattle.scp_quorum.specs.scp_xdr.specs.Tree.{Trees, no_trees, tree_then}
use Rattle.scp_quorum.specs.QuorumTree.{Level, QuorumTree}
use Rattle.scp_quorum.specs.Satisfies.{Satisfies, satisfied_count}
use Rattle.scp_quorum_search.specs.declared.member.Member.{Member}
use Rattle.scp_quorum_search.specs.Beside.{either, SatisfyBeside}
use Rattle.scp_quorum_search.specs.inside.Search.{is_node, swapped, MaySwap}
use Rattle.scp_quorum_search.specs.inside.Sides.{StandInRow, StandTogether, HaveOneSet}
use Rattle.scp_quorum_search.proofs.Nodes.{node_is, swapped_at, swap_keeps_count}

module _ (a b : NodeId) (us : NodeId → Bool) where
  row_same : (row : Trees Level) → StandInRow a b row → satisfied_count (swapped a b us) row ≡ satisfied_count us row
  row_same no_trees h = refl
  row_same (tree_then level inner others) h =
      let here : count_by (swapped a b us) level.validators ≡ count_by us level.validators = swap_keeps_count a b us level.validators h.0.0 in
      let below : satisfied_count (swapped a b us) inner ≡ satisfied_count us inner = row_same inner h.0.1 in
      let behind : satisfied_count (swapped a b us) others ≡ satisfied_count us others = row_same others h.1 in
      let sum : count_by (swapped a b us) level.validators + satisfied_count (swapped a b us) inner ≡ count_by us level.validators + satisfied_count us inner = omega (arith, here, below) in
      ap (λ n. cond (nat_le level.threshold n) (1 + satisfied_count (swapped a b us) others) (satisfied_count (swapped a b us) others)) sum
      ∙ ap (λ n. cond (nat_le level.threshold (count_by us level.validators + satisfied_count us inner)) (1 + n) n) behind

  pub Satisfies-swapped : (q : QuorumTree) → StandTogether a b q → Satisfies us q → Satisfies (swapped a b us) q
  Satisfies-swapped q h enough =
      omega (arith, enough, swap_keeps_count a b us q.head.validators h.0, row_same q.inner h.1)

module _ (liars : NodeId → Bool) (a b : NodeId) (one : liars a ≡ false) (other : liars b ≡ false) (us : NodeId → Bool) where
  either_swapped : (v : NodeId) → either liars (swapped a b us) v ≡ swapped a b (either liars us) v
  either_swapped v =
      elim (cases_Bool (is_node a v)) [
        | inl first ↦ (
            let honest : liars v ≡ false = ap liars (node_is a v first) ∙ one in
            ap (λ t. liars v || cond t (us b) (cond (is_node b v) (us a) (us v))) first
            ∙ ap (λ t. t || us b) honest
            ∙ sym (ap (λ t. t || us b) other)
            ∙ sym (ap (λ t. cond t (liars b || us b) (cond (is_node b v) (liars a || us a) (liars v || us v))) first))
        | inr not_so ↦
            ap (λ t. liars v || cond t (us b) (cond (is_node b v) (us a) (us v))) not_so
            ∙ behind_first v
            ∙ sym (ap (λ t. cond t (liars b || us b) (cond (is_node b v) (liars a || us a) (liars v || us v))) not_so)
      ]
    where
      behind_first : (v : NodeId) → (liars v || cond (is_node b v) (us a) (us v)) ≡ cond (is_node b v) (liars a || us a) (liars v || us v)
      behind_first v =
          elim (cases_Bool (is_node b v)) [
            | inl second ↦ (
                let honest : liars v ≡ false = ap liars (node_is b v second) ∙ other in
                ap (λ t. liars v || cond t (us a) (us v)) second
                ∙ ap (λ t. t || us a) honest
                ∙ sym (ap (λ t. t || us a) one)
                ∙ sym (ap (λ t. cond t (liars a || us a) (liars v || us v)) second))
            | inr neither ↦
                ap (λ t. liars v || cond t (us a) (us v)) neither
                ∙ sym (ap (λ t. cond t (liars a || us a) (liars v || us v)) neither)
          ]

  pub Satisfies-either_swapped : (q : QuorumTree) → StandTogether a b q → Satisfies (either liars us) q → Satisfies (either liars (swapped a b us)) q
  Satisfies-either_swapped q h enough =
      let P : (NodeId → Bool) → Type 0 = λ ws. Satisfies ws q in
      subst P (sym (fun_ext either_swapped)) (Satisfies-swapped a b (either liars us) q h enough)

-- the quorum set of another member with the same one
of_other : (liars : NodeId → Bool) (members : List Member) (us : NodeId → Bool) (v : NodeId) (q : QuorumTree)
    → SatisfyBeside liars members us → us v ≡ true → Any (λ o. (o.node ≡ v) × (o.set ≡ q)) members → Satisfies (either liars us) q
of_other liars members us v q closed has (j, o, lt, at, is) =
    let P : Member → Type 0 = λ x. us x.node ≡ true → Satisfies (either liars us) x.set in
    let Q : QuorumTree → Type 0 = λ s. Satisfies (either liars us) s in
    let here : P o = subst P at (closed j o lt) in
    subst Q is.1 (here (ap us is.0 ∙ has))

pub may_swap : (liars : NodeId → Bool) (members : List Member) (a b : NodeId) → liars a ≡ false → liars b ≡ false
    → HaveOneSet members a b → HaveOneSet members b a → All (λ m. StandTogether a b m.set) members
    → count_by (λ m. is_node a m.node) members ≡ count_by (λ m. is_node b m.node) members → MaySwap liars members a b
may_swap liars members a b one other there back together often = record { keeps = keeps; often = often }
  where
    before : (us : NodeId → Bool) (k : ℕ) (d : Member) → SatisfyBeside liars members us → k < length members → swapped a b us (get_or members k d).node ≡ true → Satisfies (either liars us) (get_or members k d).set
    before us k d closed lt has =
        elim (swapped_at a b us (get_or members k d).node) [
          | inl first ↦ of_other liars members us b (get_or members k d).set closed (sym first.1 ∙ has) (there k d lt first.0)
          | inr (inl second) ↦ of_other liars members us a (get_or members k d).set closed (sym second.1 ∙ has) (back k d lt second.0)
          | inr (inr same) ↦ closed k d lt (sym same ∙ has)
        ]

    keeps : (us : NodeId → Bool) → SatisfyBeside liars members us → SatisfyBeside liars members (swapped a b us)
    keeps us closed k d lt has = Satisfies-either_swapped liars a b one other us (get_or members k d).set (together k d lt) (before us k d closed lt has)
