-- Sets of nodes with one node more, and lists of which some nodes are kept.
use Rattle.std.proofs.Common.{◌≡◌, ℕ, ◌+◌, ◌<◌, ◌≤◌, Bool, true, false, cond, List, [], ◌∷◌, ◌++◌, take, length, get_or, arith, sym, ◌∙◌, ap, subst, ◌⊎◌, inl, inr}
use Rattle.std.specs.List.{All, Contains}
use Rattle.std.specs.BTreeMap.{is_at}
use Rattle.std.specs.BTreeSet.{BTreeSet}
use Rattle.std.proofs.lemmas.Bool.{cases_Bool}
use Rattle.std.proofs.lemmas.Grind.{common_steps}
use Rattle.std.proofs.lemmas.List.Elements.{All-more, All-weaker, All-nil, All-push, Contains-get_or, Contains-push, Contains-append_left}
use Rattle.scp_quorum.specs.scp_types.specs.declared.names.NodeId.{NodeId}
use Rattle.scp_quorum.specs.NodeSet.{node_cmp, is_in}
use Rattle.scp_quorum.specs.Quorum.{IsWithin}
use Rattle.scp_quorum.specs.Satisfies.{AreDisjoint}
use Rattle.scp_quorum.proofs.Pass.{same_at}
use Rattle.scp_quorum_search.specs.inside.Search.{AreListed}
use Rattle.scp_quorum_search.proofs.Nodes.{at_itself}

abbrev pub no_node : NodeId
no_node = record { 0 = [] }

pub empty_has_none : (s : BTreeSet NodeId) → s.keys ≡ [] → (v : NodeId) → is_in s v ≡ false
empty_has_none s e v = ap (λ (ks : List NodeId). let n : BTreeSet NodeId = record { keys = ks } in is_in n v) e

pub all_seen : {X : Type 0} (P : X → Type 0) (xs : List X) (i : ℕ) → length xs ≤ i → All P (take i xs) → All P xs
all_seen P xs i end all =
    let whole : take i xs ≡ xs = grind (arith, common_steps) in
    let Q : List _ → Type 0 = λ ys. All P ys in
    subst Q whole all

-- ---- one node more

module _ (node : NodeId) (old new : NodeId → Bool) (updates : (v : NodeId) → new v ≡ cond (is_at (node_cmp node) v) true (old v)) where
  pub added_itself : new node ≡ true
  added_itself = updates node ∙ ap (λ b. cond b true (old node)) (at_itself node)

  pub added_kept : IsWithin old new
  added_kept v has =
      elim (cases_Bool (is_at (node_cmp node) v)) [
        | inl at ↦ updates v ∙ ap (λ b. cond b true (old v)) at
        | inr off ↦ updates v ∙ ap (λ b. cond b true (old v)) off ∙ has
      ]

  pub added_cases : (v : NodeId) → new v ≡ true → (node ≡ v) ⊎ (old v ≡ true)
  added_cases v has =
      elim (cases_Bool (is_at (node_cmp node) v)) [
        | inl at ↦ inl (same_at node v at)
        | inr off ↦ inr (sym (ap (λ b. cond b true (old v)) off) ∙ sym (updates v) ∙ has)
      ]

  pub all_added : (vs : List NodeId) (i : ℕ) (d : NodeId) → i < length vs → node ≡ get_or vs i d → All (λ v. old v ≡ true) (take i vs) → All (λ v. new v ≡ true) (take (i + 1) vs)
  all_added vs i d here is seen =
      let P : NodeId → Type 0 = λ v. new v ≡ true in
      All-more P vs i d here (All-weaker (λ v. old v ≡ true) P (λ v has. added_kept v has) (take i vs) seen) (subst P is added_itself)

-- ---- all but the chosen ones

pub record IsOutside (all : List NodeId) (chosen nodes : NodeId → Bool) (seen : List NodeId) : Type 0 where
  pub listed : AreListed all nodes
  pub apart : AreDisjoint nodes chosen
  pub rest : All (λ v. chosen v ≡ false → nodes v ≡ true) seen

pub outside_none : (all : List NodeId) (chosen nodes : NodeId → Bool) → ((v : NodeId) → nodes v ≡ false) → IsOutside all chosen nodes []
outside_none all chosen nodes none = record {
  listed = λ v has. absurd (let f : true ≡ false = sym has ∙ none v in cc);
  apart = λ v has. absurd (let f : true ≡ false = sym has ∙ none v in cc);
  rest = All-nil (λ v. chosen v ≡ false → nodes v ≡ true);
}

module _ (all : List NodeId) (chosen nodes : NodeId → Bool) (i : ℕ) (d : NodeId) (here : i < length all) (so_far : IsOutside all chosen nodes (take i all)) where
  pub outside_adds : (new : NodeId → Bool) → ((v : NodeId) → new v ≡ cond (is_at (node_cmp (get_or all i d)) v) true (nodes v)) → chosen (get_or all i d) ≡ false → IsOutside all chosen new (take (i + 1) all)
  outside_adds new updates free = record {
    listed = λ v has. elim (added_cases (get_or all i d) nodes new updates v has) [
      | inl same ↦ (let P : NodeId → Type 0 = λ w. Contains all w in subst P same (Contains-get_or all i d here))
      | inr old ↦ so_far.listed v old
    ];
    apart = λ v has. elim (added_cases (get_or all i d) nodes new updates v has) [
      | inl same ↦ sym (ap chosen same) ∙ free
      | inr old ↦ so_far.apart v old
    ];
    rest =
        let P : NodeId → Type 0 = λ v. chosen v ≡ false → new v ≡ true in
        All-more P all i d here
        (All-weaker (λ v. chosen v ≡ false → nodes v ≡ true) P (λ v old out. added_kept (get_or all i d) nodes new updates v (old out)) (take i all) so_far.rest)
        (λ out. added_itself (get_or all i d) nodes new updates);
  }

  pub outside_skips : chosen (get_or all i d) ≡ true → IsOutside all chosen nodes (take (i + 1) all)
  outside_skips taken = record {
    listed = so_far.listed;
    apart = so_far.apart;
    rest = All-more (λ v. chosen v ≡ false → nodes v ≡ true) all i d here so_far.rest (λ out. absurd (let f : true ≡ false = sym taken ∙ out in cc));
  }

-- ---- some nodes of a list

-- each seen node is kept, or there is a reason to drop it
pub record IsSifting (left : List NodeId) (Dropped : NodeId → Type 0) (found seen : List NodeId) (n : ℕ) : Type 0 where
  pub each : All (Contains left) found
  pub all : All (λ v. Contains found v ⊎ Dropped v) seen
  pub few : length found ≤ n

pub sifting_none : (left : List NodeId) (Dropped : NodeId → Type 0) → IsSifting left Dropped [] [] 0
sifting_none left Dropped = record {
  each = All-nil (Contains left);
  all = All-nil (λ v. Contains [] v ⊎ Dropped v);
  few = omega arith;
}

module _ (left : List NodeId) (Dropped : NodeId → Type 0) (found : List NodeId) (i : ℕ) (d : NodeId) (here : i < length left) (so_far : IsSifting left Dropped found (take i left) i) where
  pub sifting_keeps : (new : List NodeId) → new ≡ found ++ get_or left i d ∷ [] → IsSifting left Dropped new (take (i + 1) left) (i + 1)
  sifting_keeps new is =
      let P : List NodeId → Type 0 = λ vs. IsSifting left Dropped vs (take (i + 1) left) (i + 1) in
      subst P (sym is) (record {
        each = All-push (Contains left) found (get_or left i d) so_far.each (Contains-get_or left i d here);
        all =
            let Q : NodeId → Type 0 = λ v. Contains (found ++ get_or left i d ∷ []) v ⊎ Dropped v in
            All-more Q left i d here (All-weaker (λ v. Contains found v ⊎ Dropped v) Q (λ v old. more v old) (take i left) so_far.all) (inl (Contains-push found (get_or left i d)));
        few = let few = so_far.few in grind (arith, common_steps);
      })
    where
      more : (v : NodeId) → Contains found v ⊎ Dropped v → Contains (found ++ get_or left i d ∷ []) v ⊎ Dropped v
      more v (inl kept) = inl (Contains-append_left found (get_or left i d ∷ []) v kept)
      more v (inr dropped) = inr dropped

  pub sifting_drops : Dropped (get_or left i d) → IsSifting left Dropped found (take (i + 1) left) (i + 1)
  sifting_drops reason = record {
    each = so_far.each;
    all = All-more (λ v. Contains found v ⊎ Dropped v) left i d here so_far.all (inr reason);
    few = omega (arith, so_far.few);
  }

-- what is kept, where a reason to drop is that a test fails
pub sifted : (test : NodeId → Bool) (found left : List NodeId) → All (λ v. Contains found v ⊎ (test v ≡ false)) left → All (λ v. test v ≡ true → Contains found v) left
sifted test found left all k d lt passes = by (get_or left k d) (all k d lt) passes
  where
    by : (v : NodeId) → Contains found v ⊎ (test v ≡ false) → test v ≡ true → Contains found v
    by v (inl kept) is_so = kept
    by v (inr fails) is_so = absurd (let f : true ≡ false = sym is_so ∙ fails in cc)
