-- Few nodes whose loss halts another one.
use Rattle.std.proofs.Common.{◌≡◌, ℕ, ◌+◌, ◌<◌, ◌≤◌, Bool, true, false, cond, List, [], ◌∷◌, length, get_or, count_by, arith, refl, sym, ◌∙◌, ap, subst, ◌⊎◌, inl, inr}
use Rattle.std.specs.List.{All, Contains}
use Rattle.std.proofs.lemmas.Bool.{cases_Bool}
use Rattle.std.proofs.lemmas.List.Elements.{All-contains}
use Rattle.std.proofs.lemmas.List.Sums.{sum_by-cons}
use Rattle.scp_quorum.specs.scp_types.specs.declared.names.NodeId.{NodeId}
use Rattle.scp_quorum.specs.NodeSet.{is_in}
use Rattle.scp_quorum.specs.Quorum.{IsWithin}
use Rattle.scp_quorum.specs.Satisfies.{AreDisjoint}
use Rattle.scp_quorum_search.specs.declared.member.Member.{Member}
use Rattle.scp_quorum_search.specs.declared.tries.Tries.{Tries}
use Rattle.scp_quorum_search.specs.declared.few.Few.{Few}
use Rattle.scp_quorum_search.specs.declared.few.Few.TheVariants as few
use Rattle.scp_quorum_search.specs.declared.quest.Quest.{Quest}
use Rattle.scp_quorum_search.specs.inside.Search.{IsBetween, MaySwap, is_node, is_or_in, swapped}
use Rattle.scp_quorum_search.specs.inside.Losses.{GoesOnIn, IsHaltedBy, AreOthers, ShowsFew}
use Rattle.scp_quorum_search.proofs.Nodes.{node_is, swapped_first, swapped_second, swapped_at, swap_keeps}
use Rattle.scp_quorum_search.proofs.Branching.{Contains-cons_cases, Contains-behind, or_in_itself, or_in_others, or_in_cases, quorum_swapped, apart_swapped, listed_swapped}
use Rattle.scp_quorum_search.proofs.Losing.{goes_on_with_fewer}

clash : {X : Type 0} (b : Bool) → b ≡ true → b ≡ false → X
clash b is_so not_so = absurd (let f : true ≡ false = sym is_so ∙ not_so in cc)

cond_mono : (a b : Bool) (m n : ℕ) → (a ≡ true → b ≡ true) → m ≤ n → cond a 1 0 + m ≤ cond b 1 0 + n
cond_mono false b m n within h = omega (arith, h)
cond_mono true false m n within h = absurd (let e : false ≡ true = within refl in cc)
cond_mono true true m n within h = omega (arith, h)

pub count_le : (us ws : NodeId → Bool) → IsWithin us ws → (members : List Member) → count_by (λ m. us m.node) members ≤ count_by (λ m. ws m.node) members
count_le us ws within [] = omega arith
count_le us ws within (m ∷ ms) =
    let rest = count_le us ws within ms in
    rw (sum_by-cons (λ x. cond (us x.node) 1 0) m ms, sum_by-cons (λ x. cond (ws x.node) 1 0) m ms) (cond_mono (us m.node) (ws m.node) _ _ (within m.node) rest)

-- ---- none between lost nodes and those that are left

module _ (quest : Quest) (at : NodeId) (count : ℕ) (lost : NodeId → Bool) (left : List NodeId) where
  abbrev pub NoneFew : Type 0
  NoneFew = (us : NodeId → Bool) → IsHaltedBy quest at count us → IsBetween lost left us → ⊥

  pub none_over : count < count_by (λ m. lost m.node) quest.members.now → NoneFew
  none_over over us halted between = omega (arith, over, count_le lost us between.has quest.members.now, halted.1)

  pub none_inside : (inside : NodeId → Bool) → IsWithin lost inside → All (λ v. inside v ≡ true) left → GoesOnIn quest at inside → NoneFew
  none_inside inside lost_inside left_inside goes us halted between =
      halted.0.halts (goes_on_with_fewer quest at inside us (λ v is_so. elim (between.rest v is_so) [
        | inl old ↦ lost_inside v old
        | inr listed ↦ All-contains (λ w. inside w ≡ true) left v left_inside listed
      ]) goes)

  pub none_end : GoesOnIn quest at lost → length left ≡ 0 → NoneFew
  none_end goes none us halted between =
      halted.0.halts (goes_on_with_fewer quest at lost us (λ v is_so. elim (between.rest v is_so) [
        | inl old ↦ old
        | inr (k, lt, is) ↦ absurd (omega arith)
      ]) goes)

-- ---- lost nodes in which two have changed places

swapped_twice : (a b : NodeId) (us : NodeId → Bool) (v : NodeId) → swapped a b (swapped a b us) v ≡ us v
swapped_twice a b us v =
    elim (cases_Bool (is_node a v)) [
      | inl first ↦
          ap (λ t. cond t (swapped a b us b) (cond (is_node b v) (swapped a b us a) (swapped a b us v))) first
          ∙ swapped_second a b us ∙ sym (ap us (node_is a v first))
      | inr not_so ↦
          ap (λ t. cond t (swapped a b us b) (cond (is_node b v) (swapped a b us a) (swapped a b us v))) not_so
          ∙ elim (cases_Bool (is_node b v)) [
            | inl second ↦ ap (λ t. cond t (swapped a b us a) (swapped a b us v)) second ∙ swapped_first a b us ∙ sym (ap us (node_is b v second))
            | inr other ↦
                ap (λ t. cond t (swapped a b us a) (swapped a b us v)) other
                ∙ ap (λ t. cond t (us b) (cond (is_node b v) (us a) (us v))) not_so
                ∙ ap (λ t. cond t (us a) (us v)) other
          ]
    ]

module _ (quest : Quest) (at a b : NodeId) (a_in : Contains quest.all.now a) (b_in : Contains quest.all.now b) (may : MaySwap (is_in quest.liars.now) quest.members.now a b) (not_a : a ≡ at → ⊥) (not_b : b ≡ at → ⊥) where
  stays_at : (us : NodeId → Bool) → swapped a b us at ≡ us at
  stays_at us =
      elim (swapped_at a b us at) [
        | inl first ↦ absurd (not_a (sym first.0))
        | inr (inl second) ↦ absurd (not_b (sym second.0))
        | inr (inr same) ↦ same
      ]

  still_halts : (us : NodeId → Bool) → (GoesOnIn quest at us → ⊥) → GoesOnIn quest at (swapped a b us) → ⊥
  still_halts us halts (ws, q, has, apart) =
      let back : AreDisjoint (swapped a b ws) (swapped a b (swapped a b us)) = apart_swapped quest a b a_in b_in may ws (swapped a b us) apart in
      halts (swapped a b ws, quorum_swapped quest a b a_in b_in may ws q, stays_at ws ∙ has, λ v is_so. sym (swapped_twice a b us v) ∙ back v is_so)

  pub halted_swapped : (count : ℕ) (us : NodeId → Bool) → IsHaltedBy quest at count us → IsHaltedBy quest at count (swapped a b us)
  halted_swapped count us halted =
      let same : count_by (λ m. swapped a b us m.node) quest.members.now ≡ count_by (λ m. us m.node) quest.members.now = swap_keeps a b us (λ (m : Member). m.node) quest.members.now may.often in (
        record { listed = listed_swapped quest a b a_in b_in may us halted.0.listed; others = stays_at us ∙ halted.0.others; halts = still_halts us halted.0.halts },
        omega (arith, same, halted.1),
      )

-- ---- the step

module _ (quest : Quest) (at : NodeId) (count : ℕ) (lost : NodeId → Bool) (left rest : List NodeId) (node : NodeId) (all_in : All (Contains quest.all.now) left) (others_all : AreOthers at left) (is : left ≡ node ∷ rest) where
  in_left : (v : NodeId) → Contains (node ∷ rest) v → Contains left v
  in_left v has = let P : List NodeId → Type 0 = λ vs. Contains vs v in subst P (sym is) has

  there : (v : NodeId) → Contains (node ∷ rest) v → Contains quest.all.now v
  there v has = All-contains (Contains quest.all.now) left v all_in (in_left v has)

  other : (v : NodeId) → Contains (node ∷ rest) v → v ≡ at → ⊥
  other v has = All-contains (λ w. w ≡ at → ⊥) left v others_all (in_left v has)

  in_rest : (v : NodeId) → Contains left v → (node ≡ v) ⊎ Contains rest v
  in_rest v has = let P : List NodeId → Type 0 = λ vs. Contains vs v in Contains-cons_cases node rest v (subst P is has)

  module _ (with_none : NoneFew quest at count (is_or_in node lost) rest) (us : NodeId → Bool) (halted : IsHaltedBy quest at count us) (between : IsBetween lost left us) where
    few_with : us node ≡ true → ⊥
    few_with is_so = with_none us halted (record {
      has = λ v more. elim (or_in_cases node lost v more) [ inl same ↦ ap us (sym same) ∙ is_so | inr old ↦ between.has v old ];
      rest = λ v in_us. elim (between.rest v in_us) [
        | inl old ↦ inl (or_in_others node lost v old)
        | inr listed ↦ elim (in_rest v listed) [
          | inl same ↦ inl (let P : NodeId → Type 0 = λ w. is_or_in node lost w ≡ true in subst P same (or_in_itself node lost))
          | inr behind ↦ inr behind
        ]
      ];
    })

    few_alike : (first : Contains (node ∷ rest) node) (v : NodeId) → us node ≡ false → us v ≡ true → lost v ≡ false → Contains rest v → MaySwap (is_in quest.liars.now) quest.members.now node v → ⊥
    few_alike first v not_so is_so free listed may =
        let behind : Contains (node ∷ rest) v = Contains-behind node rest v listed in
        with_none (swapped node v us) (halted_swapped quest at node v (there node first) (there v behind) may (other node first) (other v behind) count us halted) (record {
          has = λ w more. elim (or_in_cases node lost w more) [
            | inl same ↦ (let P : NodeId → Type 0 = λ x. swapped node v us x ≡ true in subst P same (swapped_first node v us ∙ is_so))
            | inr old ↦ kept_in w old
          ];
          rest = λ w in_swapped. elim (swapped_at node v us w) [
            | inl here ↦ inl (let P : NodeId → Type 0 = λ x. is_or_in node lost x ≡ true in subst P (sym here.0) (or_in_itself node lost))
            | inr (inl second) ↦ clash (us node) (sym second.1 ∙ in_swapped) not_so
            | inr (inr same) ↦ elim (between.rest w (sym same ∙ in_swapped)) [
              | inl old ↦ inl (or_in_others node lost w old)
              | inr listed_too ↦ elim (in_rest w listed_too) [
                | inl at_node ↦ inl (let P : NodeId → Type 0 = λ x. is_or_in node lost x ≡ true in subst P at_node (or_in_itself node lost))
                | inr further ↦ inr further
              ]
            ]
          ];
        })
      where
        kept_in : (w : NodeId) → lost w ≡ true → swapped node v us w ≡ true
        kept_in w old =
            elim (swapped_at node v us w) [
              | inl here ↦ here.1 ∙ is_so
              | inr (inl second) ↦ clash (lost w) old (ap lost second.0 ∙ free)
              | inr (inr same) ↦ same ∙ between.has w old
            ]

  pub none_few_at_all : (first : Contains (node ∷ rest) node) (others : List NodeId) → All (λ v. Contains others v ⊎ MaySwap (is_in quest.liars.now) quest.members.now node v) rest
      → NoneFew quest at count (is_or_in node lost) rest → NoneFew quest at count lost others → NoneFew quest at count lost left
  none_few_at_all first others alike with_none without_none us halted between =
      elim (cases_Bool (us node)) [
        | inl is_so ↦ few_with with_none us halted between is_so
        | inr not_so ↦ without_none us halted (record { has = between.has; rest = without not_so })
      ]
    where
      still : us node ≡ false → (v : NodeId) → us v ≡ true → Contains rest v → (lost v ≡ true) ⊎ Contains others v
      still not_so v is_so listed =
          elim (All-contains (λ w. Contains others w ⊎ MaySwap (is_in quest.liars.now) quest.members.now node w) rest v alike listed) [
            | inl found ↦ inr found
            | inr may ↦
                elim (cases_Bool (lost v)) [
                  | inl old ↦ inl old
                  | inr free ↦ absurd (few_alike with_none us halted between first v not_so is_so free listed may)
                ]
          ]

      without : us node ≡ false → (v : NodeId) → us v ≡ true → (lost v ≡ true) ⊎ Contains others v
      without not_so v is_so =
          elim (between.rest v is_so) [
            | inl old ↦ inl old
            | inr listed ↦
                elim (in_rest v listed) [
                  | inl same ↦ clash (us v) is_so (ap us (sym same) ∙ not_so)
                  | inr behind ↦ still not_so v is_so behind
                ]
          ]

-- the step of the search
pub few_wider : (quest : Quest) (at : NodeId) (count : ℕ) (lost : NodeId → Bool) (left rest : List NodeId) (node : NodeId) → All (Contains quest.all.now) left → AreOthers at left → left ≡ node ∷ rest
    → (others : List NodeId) (tries : Tries) → All (λ v. Contains others v ⊎ MaySwap (is_in quest.liars.now) quest.members.now node v) rest
    → NoneFew quest at count (is_or_in node lost) rest → (found : Few) → ShowsFew quest at count lost others tries found → ShowsFew quest at count lost left tries found
few_wider quest at count lost left rest node all_in others_all is others tries alike with_none few.Halt shows = shows
few_wider quest at count lost left rest node all_in others_all is others tries alike with_none few.Survive shows =
    none_few_at_all quest at count lost left rest node all_in others_all is (0, omega arith, refl) others alike with_none shows
few_wider quest at count lost left rest node all_in others_all is others tries alike with_none few.Unknown shows = shows

pub others_of_others : (at : NodeId) (rest others : List NodeId) → AreOthers at rest → All (Contains rest) others → AreOthers at others
others_of_others at rest others none each k d lt = All-contains (λ v. v ≡ at → ⊥) rest (get_or others k d) none (each k d lt)
