-- One step of the search: with one more node chosen, or without it and those that may change places with it.
use Rattle.std.proofs.Common.{◌≡◌, ℕ, zero, suc, ◌<◌, Bool, true, false, cond, List, ◌∷◌, length, get_or, refl, sym, ◌∙◌, ap, subst, arith, ◌⊎◌, inl, inr}
use Rattle.std.specs.List.{All, Contains}
use Rattle.std.specs.BTreeMap.{is_at}
use Rattle.std.proofs.lemmas.Bool.{cases_Bool}
use Rattle.std.proofs.lemmas.List.Elements.{All-contains, All-weaker, All-contains_itself}
use Rattle.scp_quorum.specs.scp_types.specs.declared.names.NodeId.{NodeId}
use Rattle.scp_quorum.specs.NodeSet.{node_cmp, is_in}
use Rattle.scp_quorum.specs.Quorum.{IsWithin}
use Rattle.scp_quorum.specs.Satisfies.{AreDisjoint}
use Rattle.scp_quorum.proofs.Pass.{same_at}
use Rattle.scp_quorum_search.specs.declared.tries.Tries.{Tries}
use Rattle.scp_quorum_search.specs.declared.meeting.Meeting.{Meeting}
use Rattle.scp_quorum_search.specs.declared.meeting.Meeting.TheVariants as meeting
use Rattle.scp_quorum_search.specs.declared.quest.Quest.{Quest}
use Rattle.scp_quorum_search.specs.inside.Search.{AreListed, IsQuorumIn, HasOther, IsBetween, NoneBetween, Finds, MaySwap, is_node, is_or_in, swapped}
use Rattle.scp_quorum_search.proofs.Nodes.{node_is, at_itself, swapped_first, swapped_second, swapped_at}

clash : {X : Type 0} (b : Bool) → b ≡ true → b ≡ false → X
clash b is_so not_so = absurd (let f : true ≡ false = sym is_so ∙ not_so in cc)

cons_cases : {X : Type 0} (x : X) (xs : List X) (v : X) (k : ℕ) → k < length (x ∷ xs) → get_or (x ∷ xs) k v ≡ v → (x ≡ v) ⊎ Contains xs v
cons_cases x xs v zero lt at = inl at
cons_cases x xs v (suc k) lt at = inr (k, omega arith, at)

pub Contains-cons_cases : {X : Type 0} (x : X) (xs : List X) (v : X) → Contains (x ∷ xs) v → (x ≡ v) ⊎ Contains xs v
Contains-cons_cases x xs v (k, lt, at) = cons_cases x xs v k lt at

pub Contains-behind : {X : Type 0} (x : X) (xs : List X) (v : X) → Contains xs v → Contains (x ∷ xs) v
Contains-behind x xs v (k, lt, at) = (suc k, omega arith, at)

pub Contains-first : {X : Type 0} (x : X) (xs : List X) → Contains (x ∷ xs) x
Contains-first x xs = (zero, omega arith, refl)

-- ---- one node more

pub or_in_itself : (node : NodeId) (nodes : NodeId → Bool) → is_or_in node nodes node ≡ true
or_in_itself node nodes = ap (λ t. cond t true (nodes node)) (at_itself node)

pub or_in_others : (node : NodeId) (nodes : NodeId → Bool) (v : NodeId) → nodes v ≡ true → is_or_in node nodes v ≡ true
or_in_others node nodes v has =
    elim (cases_Bool (is_at (node_cmp node) v)) [
      | inl at ↦ ap (λ t. cond t true (nodes v)) at
      | inr off ↦ ap (λ t. cond t true (nodes v)) off ∙ has
    ]

pub or_in_cases : (node : NodeId) (nodes : NodeId → Bool) (v : NodeId) → is_or_in node nodes v ≡ true → (node ≡ v) ⊎ (nodes v ≡ true)
or_in_cases node nodes v has =
    elim (cases_Bool (is_at (node_cmp node) v)) [
      | inl at ↦ inl (same_at node v at)
      | inr off ↦ inr (sym (ap (λ t. cond t true (nodes v)) off) ∙ has)
    ]

-- ---- a quorum in which two nodes have changed places

module _ (quest : Quest) (a b : NodeId) (a_in : Contains quest.all.now a) (b_in : Contains quest.all.now b) (may : MaySwap (is_in quest.liars.now) quest.members.now a b) where
  some_swapped : (us : NodeId → Bool) (v : NodeId) → us v ≡ true → (w : NodeId) × (swapped a b us w ≡ true)
  some_swapped us v has =
      elim (cases_Bool (is_node a v)) [
        | inl first ↦ (b, swapped_second a b us ∙ sym (ap us (node_is a v first)) ∙ has)
        | inr not_so ↦
            elim (cases_Bool (is_node b v)) [
              | inl second ↦ (a, swapped_first a b us ∙ sym (ap us (node_is b v second)) ∙ has)
              | inr other ↦ (v, ap (λ t. cond t (us b) (cond (is_node b v) (us a) (us v))) not_so ∙ ap (λ t. cond t (us a) (us v)) other ∙ has)
            ]
      ]

  pub listed_swapped : (us : NodeId → Bool) → AreListed quest.all.now us → AreListed quest.all.now (swapped a b us)
  listed_swapped us listed v has =
      let P : NodeId → Type 0 = λ w. Contains quest.all.now w in
      elim (swapped_at a b us v) [
        | inl first ↦ subst P (sym first.0) a_in
        | inr (inl second) ↦ subst P (sym second.0) b_in
        | inr (inr same) ↦ listed v (sym same ∙ has)
      ]

  pub quorum_swapped : (us : NodeId → Bool) → IsQuorumIn quest us → IsQuorumIn quest (swapped a b us)
  quorum_swapped us q = record {
    some = some_swapped us q.some.0 q.some.1;
    listed = listed_swapped us q.listed;
    satisfied = may.keeps us q.satisfied;
  }

  pub apart_swapped : (us vs : NodeId → Bool) → AreDisjoint us vs → AreDisjoint (swapped a b us) (swapped a b vs)
  apart_swapped us vs apart v has =
      elim (cases_Bool (is_node a v)) [
        | inl first ↦
            ap (λ t. cond t (vs b) (cond (is_node b v) (vs a) (vs v))) first
            ∙ apart b (sym (ap (λ t. cond t (us b) (cond (is_node b v) (us a) (us v))) first) ∙ has)
        | inr not_so ↦ (
            let past : cond (is_node b v) (us a) (us v) ≡ true = sym (ap (λ t. cond t (us b) (cond (is_node b v) (us a) (us v))) not_so) ∙ has in
            ap (λ t. cond t (vs b) (cond (is_node b v) (vs a) (vs v))) not_so
            ∙ elim (cases_Bool (is_node b v)) [
              | inl second ↦ ap (λ t. cond t (vs a) (vs v)) second ∙ apart a (sym (ap (λ t. cond t (us a) (us v)) second) ∙ past)
              | inr other ↦ ap (λ t. cond t (vs a) (vs v)) other ∙ apart v (sym (ap (λ t. cond t (us a) (us v)) other) ∙ past)
            ])
      ]

  pub other_swapped : (us : NodeId → Bool) → HasOther quest us → HasOther quest (swapped a b us)
  other_swapped us h = record {
    quorum = quorum_swapped us h.quorum;
    other = swapped a b h.other;
    other_is = quorum_swapped h.other h.other_is;
    apart = apart_swapped us h.other h.apart;
  }

-- ---- the step

module _ (quest : Quest) (chosen : NodeId → Bool) (next rest : List NodeId) (node : NodeId) (all_in : All (Contains quest.all.now) next) (is : next ≡ node ∷ rest) where
  next_in : (v : NodeId) → Contains next v → Contains quest.all.now v
  next_in v has = All-contains (Contains quest.all.now) next v all_in has

  pub node_in : Contains quest.all.now node
  node_in = let P : List NodeId → Type 0 = λ vs. Contains vs node in next_in node (subst P (sym is) (Contains-first node rest))

  pub rest_in : (v : NodeId) → Contains rest v → Contains quest.all.now v
  rest_in v has = let P : List NodeId → Type 0 = λ vs. Contains vs v in next_in v (subst P (sym is) (Contains-behind node rest v has))

  pub all_rest_in : All (Contains quest.all.now) rest
  all_rest_in = All-weaker (Contains rest) (Contains quest.all.now) rest_in rest (All-contains_itself rest)

  in_next : (v : NodeId) → Contains next v → (node ≡ v) ⊎ Contains rest v
  in_next v has = let P : List NodeId → Type 0 = λ vs. Contains vs v in Contains-cons_cases node rest v (subst P is has)

  module _ (with_none : NoneBetween quest (is_or_in node chosen) rest) (us : NodeId → Bool) (has : HasOther quest us) (between : IsBetween chosen next us) where
    with_it : us node ≡ true → ⊥
    with_it is_so = with_none us has (record {
      has = λ v more. elim (or_in_cases node chosen v more) [
        | inl same ↦ ap us (sym same) ∙ is_so
        | inr old ↦ between.has v old
      ];
      rest = λ v in_us. elim (between.rest v in_us) [
        | inl old ↦ inl (or_in_others node chosen v old)
        | inr listed ↦ elim (in_next v listed) [
          | inl same ↦ inl (let P : NodeId → Type 0 = λ w. is_or_in node chosen w ≡ true in subst P same (or_in_itself node chosen))
          | inr behind ↦ inr behind
        ]
      ];
    })

    -- a node that is left, and may change places with the one that is chosen next
    with_alike : (v : NodeId) → us node ≡ false → us v ≡ true → chosen v ≡ false → Contains rest v → MaySwap (is_in quest.liars.now) quest.members.now node v → ⊥
    with_alike v not_so is_so free listed may =
        with_none (swapped node v us) (other_swapped quest node v node_in (rest_in v listed) may us has) (record {
          has = λ w more. elim (or_in_cases node chosen w more) [
            | inl same ↦ (let P : NodeId → Type 0 = λ x. swapped node v us x ≡ true in subst P same (swapped_first node v us ∙ is_so))
            | inr old ↦ kept_in w old
          ];
          rest = λ w in_swapped. elim (swapped_at node v us w) [
            | inl first ↦ inl (let P : NodeId → Type 0 = λ x. is_or_in node chosen x ≡ true in subst P (sym first.0) (or_in_itself node chosen))
            | inr (inl second) ↦ clash (us node) (sym second.1 ∙ in_swapped) not_so
            | inr (inr same) ↦ elim (between.rest w (sym same ∙ in_swapped)) [
              | inl old ↦ inl (or_in_others node chosen w old)
              | inr there ↦ elim (in_next w there) [
                | inl at ↦ inl (let P : NodeId → Type 0 = λ x. is_or_in node chosen x ≡ true in subst P at (or_in_itself node chosen))
                | inr behind ↦ inr behind
              ]
            ]
          ];
        })
      where
        kept_in : (w : NodeId) → chosen w ≡ true → swapped node v us w ≡ true
        kept_in w old =
            elim (swapped_at node v us w) [
              | inl first ↦ first.1 ∙ is_so
              | inr (inl second) ↦ clash (chosen w) old (ap chosen second.0 ∙ free)
              | inr (inr same) ↦ same ∙ between.has w old
            ]

  pub none_at_all : (others : List NodeId) → All (λ v. Contains others v ⊎ MaySwap (is_in quest.liars.now) quest.members.now node v) rest
      → NoneBetween quest (is_or_in node chosen) rest → NoneBetween quest chosen others → NoneBetween quest chosen next
  none_at_all others alike with_none without_none us has here =
      elim (cases_Bool (us node)) [
        | inl is_so ↦ with_it with_none us has here is_so
        | inr not_so ↦ without_none us has (record { has = here.has; rest = without not_so here })
      ]
    where
      still : us node ≡ false → IsBetween chosen next us → (v : NodeId) → us v ≡ true → Contains rest v → (chosen v ≡ true) ⊎ Contains others v
      still not_so here v is_so listed =
          elim (All-contains (λ w. Contains others w ⊎ MaySwap (is_in quest.liars.now) quest.members.now node w) rest v alike listed) [
            | inl there ↦ inr there
            | inr may ↦
                elim (cases_Bool (chosen v)) [
                  | inl old ↦ inl old
                  | inr free ↦ absurd (with_alike with_none us has here v not_so is_so free listed may)
                ]
          ]

      without : us node ≡ false → IsBetween chosen next us → (v : NodeId) → us v ≡ true → (chosen v ≡ true) ⊎ Contains others v
      without not_so here v is_so =
          elim (here.rest v is_so) [
            | inl old ↦ inl old
            | inr there ↦
                elim (in_next v there) [
                  | inl same ↦ clash (us v) is_so (ap us (sym same) ∙ not_so)
                  | inr behind ↦ still not_so here v is_so behind
                ]
          ]

-- where nothing is left, a quorum lies inside the chosen nodes
pub none_left : (quest : Quest) (chosen : NodeId → Bool) (left : List NodeId)
    → ((us : NodeId → Bool) → IsQuorumIn quest us → IsWithin us chosen → ⊥) → length left ≡ 0 → NoneBetween quest chosen left
none_left quest chosen left never none us has between =
    never us has.quorum (λ v is_so. elim (between.rest v is_so) [
      | inl old ↦ old
      | inr (k, lt, at) ↦ absurd (omega arith)
    ])

-- what is found where fewer nodes are left is found where more are
pub finds_wider : (quest : Quest) (chosen : NodeId → Bool) (left next : List NodeId) (tries : Tries) (found : Meeting)
    → ((us : NodeId → Bool) → IsQuorumIn quest us → IsBetween chosen left us → IsBetween chosen next us)
    → Finds quest chosen next tries found → Finds quest chosen left tries found
finds_wider quest chosen left next tries (meeting.Disjoint one other) kept finds = finds
finds_wider quest chosen left next tries meeting.Intersect kept finds = λ us has between. finds us has (kept us has.quorum between)
finds_wider quest chosen left next tries meeting.Unknown kept finds = finds

-- the step of the search
pub wider : (quest : Quest) (chosen : NodeId → Bool) (left rest : List NodeId) (node : NodeId) → All (Contains quest.all.now) left → left ≡ node ∷ rest
    → (others : List NodeId) (tries : Tries) → All (λ v. Contains others v ⊎ MaySwap (is_in quest.liars.now) quest.members.now node v) rest
    → NoneBetween quest (is_or_in node chosen) rest → (found : Meeting) → Finds quest chosen others tries found → Finds quest chosen left tries found
wider quest chosen left rest node all_in is others tries alike with_none (meeting.Disjoint one other) finds = finds
wider quest chosen left rest node all_in is others tries alike with_none meeting.Intersect finds = none_at_all quest chosen left rest node all_in is others alike with_none finds
wider quest chosen left rest node all_in is others tries alike with_none meeting.Unknown finds = finds

pub listed_with : (all : List NodeId) (node : NodeId) (chosen nodes : NodeId → Bool) → Contains all node → ((v : NodeId) → nodes v ≡ is_or_in node chosen v) → AreListed all chosen → AreListed all nodes
listed_with all node chosen nodes here is listed v has =
    let P : NodeId → Type 0 = λ w. Contains all w in
    elim (or_in_cases node chosen v (sym (is v) ∙ has)) [
      | inl same ↦ subst P same here
      | inr old ↦ listed v old
    ]
