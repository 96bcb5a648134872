-- One look at chosen nodes, and at those that are left.
use Rattle.std.proofs.Common.{◌≡◌, Bool, true, false, List, sym, ◌∙◌, inl, inr}
use Rattle.std.specs.List.{All, Contains}
use Rattle.std.proofs.lemmas.Bool.{cases_Bool}
use Rattle.std.proofs.lemmas.List.Elements.{All-contains}
use Rattle.scp_quorum.specs.scp_types.specs.declared.names.NodeId.{NodeId}
use Rattle.scp_quorum.specs.NodeSet.{is_in}
use Rattle.scp_quorum.specs.Quorum.{IsWithin}
use Rattle.scp_quorum.specs.Satisfies.{AreDisjoint}
use Rattle.scp_quorum_search.specs.declared.quest.Quest.{Quest}
use Rattle.scp_quorum_search.specs.Beside.{SatisfyBeside}
use Rattle.scp_quorum_search.specs.inside.Search.{AreListed, IsQuorumIn, IsBetween, NoneBetween}

clash : {X : Type 0} (b : Bool) → b ≡ true → b ≡ false → X
clash b is_so not_so = absurd (let f : true ≡ false = sym is_so ∙ not_so in cc)

-- what a call of `settle` says of the nodes before and after it
pub record IsSettled (quest : Quest) (old new : NodeId → Bool) : Type 0 where
  pub within : IsWithin new old
  pub kept : (us : NodeId → Bool) → SatisfyBeside (is_in quest.liars.now) quest.members.now us → IsWithin us old → IsWithin us new
  pub settled : SatisfyBeside (is_in quest.liars.now) quest.members.now new

module _ (quest : Quest) (chosen : NodeId → Bool) (left : List NodeId) where
  module _ (inside most : NodeId → Bool) (chosen_inside : IsWithin chosen inside) (left_inside : All (λ v. inside v ≡ true) left) (settles : IsSettled quest inside most) where
    pub within_most : (us : NodeId → Bool) → IsQuorumIn quest us → IsBetween chosen left us → IsWithin us most
    within_most us q between =
        settles.kept us q.satisfied (λ v has. elim (between.rest v has) [
          | inl old ↦ chosen_inside v old
          | inr listed ↦ All-contains (λ w. inside w ≡ true) left v left_inside listed
        ])

    pub dead_where_none : ((v : NodeId) → most v ≡ false) → NoneBetween quest chosen left
    dead_where_none none us has between = clash (most has.quorum.some.0) (within_most us has.quorum between has.quorum.some.0 has.quorum.some.1) (none has.quorum.some.0)

    pub dead_where_lacking : (IsWithin chosen most → ⊥) → NoneBetween quest chosen left
    dead_where_lacking lacks us has between = lacks (λ v old. within_most us has.quorum between v (between.has v old))

    module _ (next : List NodeId) (all : All (λ v. most v ≡ true → Contains next v) left) where
      pub between_next : (us : NodeId → Bool) → IsQuorumIn quest us → IsBetween chosen left us → IsBetween chosen next us
      between_next us q between = record {
        has = between.has;
        rest = λ v has. elim (between.rest v has) [
          | inl old ↦ inl old
          | inr listed ↦ inr (All-contains (λ w. most w ≡ true → Contains next w) left v all listed (within_most us q between v has))
        ];
      }

  module _ (outside others : NodeId → Bool) (apart : AreDisjoint outside chosen) (listed : AreListed quest.all.now outside) (rest : All (λ v. chosen v ≡ false → outside v ≡ true) quest.all.now) (settles : IsSettled quest outside others) where
    pub dead_where_no_other : ((v : NodeId) → others v ≡ false) → NoneBetween quest chosen left
    dead_where_no_other none us has between =
        let v = has.other_is.some.0 in
        clash (others v) (settles.kept has.other has.other_is.satisfied lies_outside v has.other_is.some.1) (none v)
      where
        not_chosen : (v : NodeId) → has.other v ≡ true → chosen v ≡ false
        not_chosen v is_so =
            elim (cases_Bool (chosen v)) [
              | inl old ↦ clash (has.other v) is_so (has.apart v (between.has v old))
              | inr free ↦ free
            ]

        lies_outside : IsWithin has.other outside
        lies_outside v is_so = All-contains (λ w. chosen w ≡ false → outside w ≡ true) quest.all.now v rest (has.other_is.listed v is_so) (not_chosen v is_so)

    pub other_quorum : (v : NodeId) × (others v ≡ true) → IsQuorumIn quest others
    other_quorum some = record { some = some; listed = λ v is_so. listed v (settles.within v is_so); satisfied = settles.settled }

    module _ (least : NodeId → Bool) (least_settles : IsSettled quest chosen least) where
      pub apart_from_others : AreDisjoint least others
      apart_from_others v is_so =
          elim (cases_Bool (others v)) [
            | inl there ↦ clash (chosen v) (least_settles.within v is_so) (apart v (settles.within v there))
            | inr out ↦ out
          ]

  module _ (chosen_in : AreListed quest.all.now chosen) (least : NodeId → Bool) (settles : IsSettled quest chosen least) where
    pub least_quorum : (v : NodeId) × (least v ≡ true) → IsQuorumIn quest least
    least_quorum some = record { some = some; listed = λ v is_so. chosen_in v (settles.within v is_so); satisfied = settles.settled }

    pub none_chosen : ((v : NodeId) → least v ≡ false) → (us : NodeId → Bool) → IsQuorumIn quest us → IsWithin us chosen → ⊥
    none_chosen none us q within = clash (least q.some.0) (settles.kept us q.satisfied within q.some.0 q.some.1) (none q.some.0)
