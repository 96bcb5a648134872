-- The greatest quorum inside given nodes, over plain tests of nodes. So it can be decided whether a node goes on without lost ones.
use Rattle.std.proofs.Common.{◌≡◌, ℕ, zero, suc, ◌+◌, ◌<◌, ◌≤◌, Bool, true, false, not, ◌&&◌, cond, List, [], ◌∷◌, get_or, count_by, arith, refl, sym, ◌∙◌, ap, subst, ◌⊎◌, inl, inr}
use Rattle.std.specs.List.{All, Any, Contains, list_any}
use Rattle.std.specs.BTreeMap.{is_at}
use Rattle.std.proofs.lemmas.Bool.{cases_Bool, cases_lt, and_parts, and_from, not-true, not_from_false}
use Rattle.std.proofs.lemmas.List.Elements.{All-nil, All-cons, All-head, All-tail, All-contains_itself, All-weaker}
use Rattle.std.proofs.lemmas.List.Folds.{Any-from_list_any, list_any-from_Any}
use Rattle.std.proofs.lemmas.List.Sums.{sum_by-cons}
use Rattle.scp_quorum.specs.scp_types.specs.declared.names.NodeId.{NodeId}
use Rattle.scp_quorum.specs.NodeSet.{node_cmp, is_in}
use Rattle.scp_quorum.specs.QuorumTree.{QuorumTree}
use Rattle.scp_quorum.specs.Satisfies.{Satisfies, satisfied_count, AreDisjoint}
use Rattle.scp_quorum.proofs.Pass.{same_at}
use Rattle.scp_quorum_search.specs.declared.member.Member.{Member}
use Rattle.scp_quorum_search.specs.declared.quest.Quest.{Quest}
use Rattle.scp_quorum_search.specs.Beside.{either, SatisfyBeside}
use Rattle.scp_quorum_search.specs.inside.Search.{AreListed, is_node}
use Rattle.scp_quorum_search.specs.inside.Losses.{GoesOnIn, less}
use Rattle.scp_quorum_search.proofs.Nodes.{at_itself, node_is, is_itself}
use Rattle.scp_quorum_search.proofs.Branching.{Contains-cons_cases}
use Rattle.scp_quorum_search.proofs.Settling.{IsContent, removed_within, removed_keeps}
use Rattle.scp_quorum_search.proofs.Looking.{IsSettled}
use Rattle.scp_quorum_search.proofs.Losing.{going, found_going}

clash : {X : Type 0} (b : Bool) → b ≡ true → b ≡ false → X
clash b is_so not_so = absurd (let f : true ≡ false = sym is_so ∙ not_so in cc)

-- ---- a member that isn't content, or none

satisfies_or_not : (us : NodeId → Bool) (q : QuorumTree) → Satisfies us q ⊎ (Satisfies us q → ⊥)
satisfies_or_not us q =
    elim (cases_lt (count_by us q.head.validators + satisfied_count us q.inner) q.head.threshold) [
      | inl below ↦ inr (λ enough. omega (arith, below, enough))
      | inr enough ↦ inl enough
    ]

record IsBad (liars : NodeId → Bool) (members : List Member) (us : NodeId → Bool) (m : Member) : Type 0 where
  among : (ws : NodeId → Bool) → SatisfyBeside liars members ws → IsContent liars ws m
  there : us m.node ≡ true
  fails : Satisfies (either liars us) m.set → ⊥

content_or_not : (liars us : NodeId → Bool) (m : Member) → IsContent liars us m ⊎ ((us m.node ≡ true) × (Satisfies (either liars us) m.set → ⊥))
content_or_not liars us m =
    elim (cases_Bool (us m.node)) [
      | inl is_so ↦
          elim (satisfies_or_not (either liars us) m.set) [
            | inl enough ↦ inl (λ _. enough)
            | inr fails ↦ inr (is_so, fails)
          ]
      | inr not_so ↦ inl (λ has. clash (us m.node) has not_so)
    ]

all_or_bad : (liars us : NodeId → Bool) (members : List Member) → SatisfyBeside liars members us ⊎ ((m : Member) × IsBad liars members us m)
all_or_bad liars us [] = inl (All-nil (IsContent liars us))
all_or_bad liars us (m ∷ ms) =
    elim (content_or_not liars us m) [
      | inr bad ↦ inr (m, record { among = λ ws closed. All-head (IsContent liars ws) m ms closed; there = bad.0; fails = bad.1 })
      | inl here ↦
          elim (all_or_bad liars us ms) [
            | inl rest ↦ inl (All-cons (IsContent liars us) m ms here rest)
            | inr bad ↦ inr (bad.0, record { among = λ ws closed. bad.1.among ws (All-tail (IsContent liars ws) m ms closed); there = bad.1.there; fails = bad.1.fails })
          ]
    ]

-- ---- one node less

less_or_same : (node : NodeId) (ws : NodeId → Bool) (v : NodeId) → ◌≤◌ (cond (less node ws v) 1 0) (cond (ws v) 1 0)
less_or_same node ws v =
    elim (cases_Bool (is_at (node_cmp node) v)) [
      | inl at ↦ (
          let gone : ◌≡◌ {A = ℕ} (cond (less node ws v) 1 0) 0 = ap (λ t. cond (cond t false (ws v)) 1 0) at in
          omega (arith, gone))
      | inr off ↦ (
          let same : ◌≡◌ {A = ℕ} (cond (less node ws v) 1 0) (cond (ws v) 1 0) = ap (λ t. cond (cond t false (ws v)) 1 0) off in
          omega (arith, same))
    ]

count_no_more : (node : NodeId) (ws : NodeId → Bool) (vs : List NodeId) → count_by (less node ws) vs ≤ count_by ws vs
count_no_more node ws [] = omega arith
count_no_more node ws (v ∷ vs) =
    omega (arith, sum_by-cons (λ x. cond (less node ws x) 1 0) v vs, sum_by-cons (λ x. cond (ws x) 1 0) v vs, less_or_same node ws v, count_no_more node ws vs)

count_fewer : (node : NodeId) (ws : NodeId → Bool) (vs : List NodeId) → Contains vs node → ws node ≡ true → count_by (less node ws) vs < count_by ws vs
count_fewer node ws [] (k, lt, at) has = absurd (omega arith)
count_fewer node ws (v ∷ vs) there has =
    let new = sum_by-cons (λ x. cond (less node ws x) 1 0) v vs in
    let old = sum_by-cons (λ x. cond (ws x) 1 0) v vs in
    elim (cases_Bool (is_at (node_cmp node) v)) [
      | inl at ↦ (
          let gone : ◌≡◌ {A = ℕ} (cond (less node ws v) 1 0) 0 = ap (λ t. cond (cond t false (ws v)) 1 0) at in
          let was : ◌≡◌ {A = ℕ} (cond (ws v) 1 0) 1 = ap (λ t. cond t 1 0) (sym (ap ws (same_at node v at)) ∙ has) in
          omega (arith, new, old, gone, was, count_no_more node ws vs))
      | inr off ↦
          elim (Contains-cons_cases v vs node there) [
            | inl same ↦ (let P : NodeId → Type 0 = λ x. is_at (node_cmp node) x ≡ true in clash (is_at (node_cmp node) v) (subst P (sym same) (at_itself node)) off)
            | inr behind ↦ omega (arith, new, old, less_or_same node ws v, count_fewer node ws vs behind has)
          ]
    ]

-- ---- the greatest quorum inside the nodes, or none

module _ (quest : Quest) where
  settled_at_once : (ws : NodeId → Bool) → SatisfyBeside (is_in quest.liars.now) quest.members.now ws → IsSettled quest ws ws
  settled_at_once ws closed = record { within = λ v has. has; kept = λ us content within. within; settled = closed }

  settled_after : (ws gs : NodeId → Bool) (m : Member) → IsBad (is_in quest.liars.now) quest.members.now ws m → IsSettled quest (less m.node ws) gs → IsSettled quest ws gs
  settled_after ws gs m bad after = record {
    within = λ v has. removed_within m.node ws (less m.node ws) (λ w. refl) v (after.within v has);
    kept = λ us closed inside.
        after.kept us closed (removed_keeps m.node ws (less m.node ws) (λ w. refl) (is_in quest.liars.now) us m refl bad.fails (bad.among us closed) inside);
    settled = after.settled;
  }

  listed_less : (ws : NodeId → Bool) (node : NodeId) → AreListed quest.all.now ws → AreListed quest.all.now (less node ws)
  listed_less ws node listed v has = listed v (removed_within node ws (less node ws) (λ w. refl) v has)

  greatest_by : (n : ℕ) (ws : NodeId → Bool) → AreListed quest.all.now ws → count_by ws quest.all.now ≤ n → (gs : NodeId → Bool) × IsSettled quest ws gs
  greatest_by zero ws listed few =
      elim (all_or_bad (is_in quest.liars.now) ws quest.members.now) [
        | inl closed ↦ (ws, settled_at_once ws closed)
        | inr bad ↦ absurd (let fewer = count_fewer bad.0.node ws quest.all.now (listed bad.0.node bad.1.there) bad.1.there in omega (arith, fewer, few))
      ]
  greatest_by (suc n) ws listed few =
      elim (all_or_bad (is_in quest.liars.now) ws quest.members.now) [
        | inl closed ↦ (ws, settled_at_once ws closed)
        | inr bad ↦ (
            let fewer = count_fewer bad.0.node ws quest.all.now (listed bad.0.node bad.1.there) bad.1.there in
            let after = greatest_by n (less bad.0.node ws) (listed_less ws bad.0.node listed) (omega (arith, fewer, few)) in
            (after.0, settled_after ws after.0 bad.0 bad.1 after.1))
      ]

  -- ---- without the lost ones

  free_of : (NodeId → Bool) → NodeId → Bool
  free_of lost v = not (lost v) && list_any (is_node v) quest.all.now

  free_apart : (lost : NodeId → Bool) → AreDisjoint (free_of lost) lost
  unfolding free_of
  free_apart lost v has = not-true (lost v) (and_parts (not (lost v)) (list_any (is_node v) quest.all.now) has).0

  free_listed : (lost : NodeId → Bool) → AreListed quest.all.now (free_of lost)
  unfolding free_of
  free_listed lost v has = named (Any-from_list_any (is_node v) quest.all.now (and_parts (not (lost v)) (list_any (is_node v) quest.all.now) has).1)
    where
      named : Any (λ w. is_node v w ≡ true) quest.all.now → Contains quest.all.now v
      named (k, w, lt, at, is) =
          let P : NodeId → Type 0 = λ x. get_or quest.all.now k x ≡ x in
          (k, lt, subst P (node_is v w is) at)

  free_rest : (lost : NodeId → Bool) → All (λ v. lost v ≡ false → free_of lost v ≡ true) quest.all.now
  unfolding free_of
  free_rest lost =
      All-weaker (Contains quest.all.now) (λ v. lost v ≡ false → free_of lost v ≡ true)
      (λ v here free. and_from (not (lost v)) (list_any (is_node v) quest.all.now) (not_from_false (lost v) free) (found v here)) quest.all.now (All-contains_itself quest.all.now)
    where
      found : (v : NodeId) → Contains quest.all.now v → list_any (is_node v) quest.all.now ≡ true
      found v (k, lt, at) = list_any-from_Any (is_node v) quest.all.now (k, v, lt, at, is_itself v)

  pub goes_or_not : (at : NodeId) (lost : NodeId → Bool) → GoesOnIn quest at lost ⊎ (GoesOnIn quest at lost → ⊥)
  goes_or_not at lost =
      let found = greatest_by (count_by (free_of lost) quest.all.now) (free_of lost) (free_listed lost) (omega arith) in
      elim (cases_Bool (found.0 at)) [
        | inl has ↦ inl (going quest at lost (free_of lost) found.0 (free_apart lost) (free_listed lost) (free_rest lost) found.1 has)
        | inr out ↦ inr (λ goes. clash (found.0 at) (found_going quest at lost (free_of lost) found.0 (free_apart lost) (free_listed lost) (free_rest lost) found.1 goes) out)
      ]
