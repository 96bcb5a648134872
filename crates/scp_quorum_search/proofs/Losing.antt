-- Which losses halt a node.
use Rattle.std.proofs.Common.{◌≡◌, suc, Bool, true, false, cond, List, [], ◌∷◌, ◌++◌, length, get_or, arith, sym, ◌∙◌, ap, subst, ◌⊎◌, inl, inr}
use Rattle.std.specs.List.{All, Contains}
use Rattle.std.specs.BTreeMap.{is_at}
use Rattle.std.specs.BTreeSet.{BTreeSet}
use Rattle.std.proofs.Math.Path.{fun_ext}
use Rattle.std.proofs.lemmas.Bool.{cases_Bool}
use Rattle.std.proofs.lemmas.Grind.{common_steps}
use Rattle.std.proofs.lemmas.List.Elements.{All-contains}
use Rattle.std.proofs.lemmas.List.Quantifiers.{Any-push}
use Rattle.scp_quorum.specs.scp_types.specs.declared.names.NodeId.{NodeId}
use Rattle.scp_quorum.specs.NodeSet.{node_cmp, is_in}
use Rattle.scp_quorum.specs.Quorum.{IsWithin}
use Rattle.scp_quorum.specs.Satisfies.{AreDisjoint}
use Rattle.scp_quorum.proofs.Pass.{same_at}
use Rattle.scp_quorum_search.specs.declared.quest.Quest.{Quest}
use Rattle.scp_quorum_search.specs.Quorums.{IsListed}
use Rattle.scp_quorum_search.specs.inside.Search.{AreListed, is_or_in}
use Rattle.scp_quorum_search.specs.inside.Losses.{GoesOnIn, IsSmallestIn, IsNeeded, less, AreOthers, AllGathered}
use Rattle.scp_quorum_search.proofs.Nodes.{at_itself}
use Rattle.scp_quorum_search.proofs.Looking.{IsSettled}
use Rattle.scp_quorum_search.proofs.Branching.{Contains-cons_cases, or_in_itself, or_in_others, or_in_cases}

clash : {X : Type 0} (b : Bool) → b ≡ true → b ≡ false → X
clash b is_so not_so = absurd (let f : true ≡ false = sym is_so ∙ not_so in cc)

-- fewer lost, and a node still goes on
pub goes_on_with_fewer : (quest : Quest) (at : NodeId) (lost part : NodeId → Bool) → IsWithin part lost → GoesOnIn quest at lost → GoesOnIn quest at part
goes_on_with_fewer quest at lost part within (us, q, has, apart) = (us, q, has, still)
  where
    still : AreDisjoint us part
    still v is_so =
        elim (cases_Bool (part v)) [
          | inl taken ↦ clash (lost v) (within v taken) (apart v is_so)
          | inr free ↦ free
        ]

-- ---- the greatest quorum without the lost ones

module _ (quest : Quest) (at : NodeId) (lost outside others : NodeId → Bool) (apart : AreDisjoint outside lost) (listed : AreListed quest.all.now outside) (rest : All (λ v. lost v ≡ false → outside v ≡ true) quest.all.now) (settles : IsSettled quest outside others) where
  pub going : others at ≡ true → GoesOnIn quest at lost
  going has = (others, record { some = (at, has); listed = λ v is_so. listed v (settles.within v is_so); satisfied = settles.settled }, has, λ v is_so. apart v (settles.within v is_so))

  pub found_going : GoesOnIn quest at lost → others at ≡ true
  found_going (us, q, has, free) =
      settles.kept us q.satisfied (λ v is_so. All-contains (λ w. lost w ≡ false → outside w ≡ true) quest.all.now v rest (q.listed v is_so) (free v is_so)) at has

-- ---- a smallest set

less_at : (node : NodeId) (nodes : NodeId → Bool) → less node nodes node ≡ false
less_at node nodes = ap (λ t. cond t false (nodes node)) (at_itself node)

less_within : (node : NodeId) (nodes : NodeId → Bool) → IsWithin (less node nodes) nodes
less_within node nodes v has =
    elim (cases_Bool (is_at (node_cmp node) v)) [
      | inl at ↦ (let not_so : false ≡ true = sym (ap (λ t. cond t false (nodes v)) at) ∙ has in absurd (let f : false ≡ true = not_so in cc))
      | inr off ↦ sym (ap (λ t. cond t false (nodes v)) off) ∙ has
    ]

within_less : (node : NodeId) (part nodes : NodeId → Bool) → IsWithin part nodes → part node ≡ false → IsWithin part (less node nodes)
within_less node part nodes within lacks v has =
    elim (cases_Bool (is_at (node_cmp node) v)) [
      | inl at ↦ clash (part node) (ap part (same_at node v at) ∙ has) lacks
      | inr off ↦ ap (λ t. cond t false (nodes v)) off ∙ within v has
    ]

pub smallest_by : (quest : Quest) (at : NodeId) (lost : NodeId → Bool) → AreListed quest.all.now lost → All (IsNeeded quest at lost) quest.all.now → IsSmallestIn quest at lost
smallest_by quest at lost listed needed part halts within v has =
    elim (cases_Bool (part v)) [
      | inl there ↦ there
      | inr out ↦
          absurd (halts (goes_on_with_fewer quest at (less v lost) part (within_less v part lost within out)
          (All-contains (IsNeeded quest at lost) quest.all.now v needed (listed v has) has)))
    ]

pub not_smallest : (quest : Quest) (at : NodeId) (lost : NodeId → Bool) (node : NodeId) → (IsNeeded quest at lost node → ⊥) → IsSmallestIn quest at lost → ⊥
not_smallest quest at lost node never smallest =
    elim (cases_Bool (lost node)) [
      | inl has ↦
          never (λ _. absurd (clash (less node lost node) (smallest (less node lost) (λ goes. never (λ _. goes)) (less_within node lost) node has) (less_at node lost)))
      | inr out ↦ never (λ has. absurd (let f : true ≡ false = sym has ∙ out in cc))
    ]

-- ---- sets between lost nodes and those that are left

same_sets : (us ws : NodeId → Bool) → IsWithin us ws → IsWithin ws us → us ≡ ws
same_sets us ws there back = fun_ext (λ v. same v)
  where
    same : (v : NodeId) → us v ≡ ws v
    same v =
        elim (cases_Bool (us v)) [
          | inl is_so ↦ is_so ∙ sym (there v is_so)
          | inr not_so ↦
              elim (cases_Bool (ws v)) [
                | inl has ↦ clash (us v) (back v has) not_so
                | inr out ↦ not_so ∙ sym out
              ]
        ]

listed_as : (found : List (BTreeSet NodeId)) (us ws : NodeId → Bool) → us ≡ ws → IsListed found us → IsListed found ws
listed_as found us ws same = let P : (NodeId → Bool) → Type 0 = λ t. IsListed found t in subst P same

module _ (quest : Quest) (at : NodeId) (lost : NodeId → Bool) (left : List NodeId) (found : List (BTreeSet NodeId)) where
  -- the lost nodes halt it already
  pub gathered_here : (GoesOnIn quest at lost → ⊥) → (IsSmallestIn quest at lost → IsListed found lost) → AllGathered quest at lost left found
  gathered_here halts added us halting smallest between =
      let same : lost ≡ us = same_sets lost us between.has (smallest lost halts between.has) in
      let P : (NodeId → Bool) → Type 0 = λ t. IsSmallestIn quest at t in
      listed_as found lost us same (added (subst P (sym same) smallest))

  -- not even all of them halt it
  pub gathered_none : (inside : NodeId → Bool) → IsWithin lost inside → All (λ v. inside v ≡ true) left → GoesOnIn quest at inside → AllGathered quest at lost left found
  gathered_none inside lost_inside left_inside goes us halting smallest between =
      absurd (halting.halts (goes_on_with_fewer quest at inside us (λ v is_so. elim (between.rest v is_so) [
        | inl old ↦ lost_inside v old
        | inr listed ↦ All-contains (λ w. inside w ≡ true) left v left_inside listed
      ]) goes))

  -- nothing is left
  pub gathered_end : GoesOnIn quest at lost → length left ≡ 0 → AllGathered quest at lost left found
  gathered_end goes none us halting smallest between =
      absurd (halting.halts (goes_on_with_fewer quest at lost us (λ v is_so. elim (between.rest v is_so) [
        | inl old ↦ old
        | inr (k, lt, is) ↦ absurd (omega arith)
      ]) goes))

  -- with one node more, and without it
  pub gathered_both : (node : NodeId) (rest : List NodeId) → left ≡ node ∷ rest → AllGathered quest at (is_or_in node lost) rest found → AllGathered quest at lost rest found → AllGathered quest at lost left found
  gathered_both node rest is with_it without us halting smallest between =
      elim (cases_Bool (us node)) [
        | inl is_so ↦ with_it us halting smallest (record {
          has = λ v more. elim (or_in_cases node lost v more) [ inl same ↦ ap us (sym same) ∙ is_so | inr old ↦ between.has v old ];
          rest = λ v in_us. elim (where_is v in_us) [
            | inl old ↦ inl (or_in_others node lost v old)
            | inr (inl same) ↦ inl (let P : NodeId → Type 0 = λ w. is_or_in node lost w ≡ true in subst P same (or_in_itself node lost))
            | inr (inr behind) ↦ inr behind
          ];
        })
        | inr not_so ↦ without us halting smallest (record {
          has = between.has;
          rest = λ v in_us. elim (where_is v in_us) [
            | inl old ↦ inl old
            | inr (inl same) ↦ clash (us v) in_us (ap us (sym same) ∙ not_so)
            | inr (inr behind) ↦ inr behind
          ];
        })
      ]
    where
      where_is : (v : NodeId) → us v ≡ true → (lost v ≡ true) ⊎ ((node ≡ v) ⊎ Contains rest v)
      where_is v in_us =
          elim (between.rest v in_us) [
            | inl old ↦ inl old
            | inr listed ↦ inr (let P : List NodeId → Type 0 = λ vs. Contains vs v in Contains-cons_cases node rest v (subst P is listed))
          ]

-- what was gathered stays
pub gathered_kept : (quest : Quest) (at : NodeId) (lost : NodeId → Bool) (left : List NodeId) (old new : List (BTreeSet NodeId)) → ((us : NodeId → Bool) → IsListed old us → IsListed new us) → AllGathered quest at lost left old → AllGathered quest at lost left new
gathered_kept quest at lost left old new kept all us halting smallest between = kept us (all us halting smallest between)

pub listed_more : (found : List (BTreeSet NodeId)) (added : BTreeSet NodeId) (us : NodeId → Bool) → IsListed found us → IsListed (found ++ added ∷ []) us
listed_more found added us (k, s, lt, is, same) = (k, s, grind (arith, common_steps), grind (arith, common_steps), same)

pub listed_last : (found : List (BTreeSet NodeId)) (added lost : BTreeSet NodeId) → added ≡ lost → IsListed (found ++ added ∷ []) (is_in lost)
listed_last found added lost same = Any-push (λ s. (v : NodeId) → is_in s v ≡ is_in lost v) found added (λ v. ap (λ s. is_in s v) same)

pub but_this : (at : NodeId) (others all : List NodeId) → All (λ v. Contains others v ⊎ (v ≡ at)) all → All (λ v. (v ≡ at → ⊥) → Contains others v) all
but_this at others all each k d lt other = by (get_or all k d) (each k d lt) other
  where
    by : (v : NodeId) → Contains others v ⊎ (v ≡ at) → (v ≡ at → ⊥) → Contains others v
    by v (inl kept) not_at = kept
    by v (inr is) not_at = absurd (not_at is)

-- the first of other nodes, and those behind it
pub first_other : (at : NodeId) (left rest : List NodeId) (node : NodeId) → left ≡ node ∷ rest → AreOthers at left → node ≡ at → ⊥
first_other at left rest node is others same =
    let P : List NodeId → Type 0 = λ vs. AreOthers at vs in
    subst P is others 0 node (omega arith) same

pub other_behind : (at : NodeId) (left rest : List NodeId) (node : NodeId) → left ≡ node ∷ rest → AreOthers at left → AreOthers at rest
other_behind at left rest node is others k d lt same =
    let P : List NodeId → Type 0 = λ vs. AreOthers at vs in
    subst P is others (suc k) d (omega arith) same

pub still_kept : (at node : NodeId) (lost : NodeId → Bool) → (node ≡ at → ⊥) → lost at ≡ false → is_or_in node lost at ≡ false
still_kept at node lost other kept =
    elim (cases_Bool (is_at (node_cmp node) at)) [
      | inl there ↦ absurd (other (same_at node at there))
      | inr off ↦ ap (λ t. cond t true (lost at)) off ∙ kept
    ]
