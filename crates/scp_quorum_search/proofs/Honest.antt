-- The quorums of members beside liars are those among the nodes that don't lie.
use Rattle.std.proofs.Common.{◌≡◌, Bool, true, false, ◌||◌, ◌&&◌, List, sym, ◌∙◌, ap, subst, ◌⊎◌, inl, inr}
use Rattle.std.specs.List.{All, Any, Contains, list_any}
use Rattle.std.proofs.Math.Path.{fun_ext}
use Rattle.std.proofs.lemmas.Bool.{cases_Bool, and_parts, and_from}
use Rattle.std.proofs.lemmas.List.Elements.{All-contains}
use Rattle.std.proofs.lemmas.List.Folds.{Any-from_list_any, list_any-from_Any}
use Rattle.scp_quorum.specs.scp_types.specs.declared.names.NodeId.{NodeId}
use Rattle.scp_quorum.specs.NodeSet.{is_in}
use Rattle.scp_quorum.specs.Satisfies.{Satisfies, AreDisjoint}
use Rattle.scp_quorum_search.specs.declared.member.Member.{Member}
use Rattle.scp_quorum_search.specs.declared.tries.Tries.{Tries}
use Rattle.scp_quorum_search.specs.declared.meeting.Meeting.{Meeting}
use Rattle.scp_quorum_search.specs.declared.meeting.Meeting.TheVariants as meeting
use Rattle.scp_quorum_search.specs.declared.quest.Quest.{Quest}
use Rattle.scp_quorum_search.specs.Quorums.{IsQuorumOf, Share}
use Rattle.scp_quorum_search.specs.Beside.{either, IsQuorumBeside, IntersectBeside}
use Rattle.scp_quorum_search.specs.Meeting.{Shows, ShowsBeside}
use Rattle.scp_quorum_search.specs.inside.Search.{AreListed, IsQuorumIn, NoneBetween, Finds}

clash : {X : Type 0} (b : Bool) → b ≡ true → b ≡ false → X
clash b is_so not_so = absurd (let f : true ≡ false = sym is_so ∙ not_so in cc)

share_or_apart : (nodes : List NodeId) (us vs : NodeId → Bool) → AreListed nodes us → Share us vs ⊎ AreDisjoint us vs
share_or_apart nodes us vs listed =
    elim (cases_Bool (list_any (λ v. us v && vs v) nodes)) [
      | inl some ↦ inl (shared (Any-from_list_any (λ v. us v && vs v) nodes some))
      | inr none ↦ inr (λ v is_so. elim (cases_Bool (vs v)) [
        | inl both ↦ clash (list_any (λ w. us w && vs w) nodes) (there v is_so both (listed v is_so)) none
        | inr out ↦ out
      ])
    ]
  where
    shared : Any (λ v. (us v && vs v) ≡ true) nodes → Share us vs
    shared (k, v, lt, at, both) = let parts = and_parts (us v) (vs v) both in (v, parts.0, parts.1)

    there : (v : NodeId) → us v ≡ true → vs v ≡ true → Contains nodes v → list_any (λ w. us w && vs w) nodes ≡ true
    there v one other (k, lt, at) = list_any-from_Any (λ w. us w && vs w) nodes (k, v, lt, at, and_from (us v) (vs v) one other)

module _ (quest : Quest) (each : All (λ v. Any (λ m. m.node ≡ v) quest.members.now) quest.all.now) (honest : All (λ v. is_in quest.liars.now v ≡ false) quest.all.now) (every : All (λ m. is_in quest.liars.now m.node ≡ false → Contains quest.all.now m.node) quest.members.now) where
  listed_by : (us : NodeId → Bool) → IsQuorumBeside (is_in quest.liars.now) quest.members.now us → AreListed quest.all.now us
  listed_by us q v is_so = at_member (q.known v is_so)
    where
      at_member : Any (λ m. m.node ≡ v) quest.members.now → Contains quest.all.now v
      at_member (k, m, lt, at, is) =
          let P : Member → Type 0 = λ o. is_in quest.liars.now o.node ≡ false → Contains quest.all.now o.node in
          let Q : NodeId → Type 0 = λ w. Contains quest.all.now w in
          let here : P m = subst P at (every k m lt) in
          subst Q is (here (ap (is_in quest.liars.now) is ∙ q.honest v is_so))

  pub quorum_in : (us : NodeId → Bool) → IsQuorumBeside (is_in quest.liars.now) quest.members.now us → IsQuorumIn quest us
  quorum_in us q = record { some = q.some; listed = listed_by us q; satisfied = q.satisfied }

  pub quorum_beside : (us : NodeId → Bool) → IsQuorumIn quest us → IsQuorumBeside (is_in quest.liars.now) quest.members.now us
  quorum_beside us q = record {
    some = q.some;
    known = λ v is_so. All-contains (λ w. Any (λ m. m.node ≡ w) quest.members.now) quest.all.now v each (q.listed v is_so);
    honest = λ v is_so. All-contains (λ w. is_in quest.liars.now w ≡ false) quest.all.now v honest (q.listed v is_so);
    satisfied = q.satisfied;
  }

  intersect : (chosen : NodeId → Bool) → ((v : NodeId) → chosen v ≡ false) → NoneBetween quest chosen quest.all.now → IntersectBeside (is_in quest.liars.now) quest.members.now
  intersect chosen free none us vs one other =
      elim (share_or_apart quest.all.now us vs (listed_by us one)) [
        | inl share ↦ share
        | inr apart ↦ absurd (none us (record {
          quorum = quorum_in us one;
          other = vs;
          other_is = quorum_in vs other;
          apart = apart;
        }) (record {
          has = λ v taken. clash (chosen v) taken (free v);
          rest = λ v is_so. inr (listed_by us one v is_so);
        }))
      ]

  pub shows_beside : (chosen : NodeId → Bool) (tries : Tries) (found : Meeting) → ((v : NodeId) → chosen v ≡ false) → Finds quest chosen quest.all.now tries found → ShowsBeside (is_in quest.liars.now) quest.members.now tries found
  shows_beside chosen tries (meeting.Disjoint one other) free finds = (quorum_beside (is_in one) finds.0, quorum_beside (is_in other) finds.1, finds.2)
  shows_beside chosen tries meeting.Intersect free finds = intersect chosen free finds
  shows_beside chosen tries meeting.Unknown free finds = finds

-- ---- where none lies

module _ (members : List Member) (liars : NodeId → Bool) (none : (v : NodeId) → liars v ≡ false) where
  alone : (us : NodeId → Bool) → either liars us ≡ us
  alone us = fun_ext (λ v. ap (λ b. b || us v) (none v))

  pub quorum_of : (us : NodeId → Bool) → IsQuorumBeside liars members us → IsQuorumOf members us
  quorum_of us q =
      let P : (NodeId → Bool) → Type 0 = λ ws. All (λ m. us m.node ≡ true → Satisfies ws m.set) members in
      record { some = q.some; known = q.known; satisfied = subst P (alone us) q.satisfied }

  pub beside_none : (us : NodeId → Bool) → IsQuorumOf members us → IsQuorumBeside liars members us
  beside_none us q =
      let P : (NodeId → Bool) → Type 0 = λ ws. All (λ m. us m.node ≡ true → Satisfies ws m.set) members in
      record { some = q.some; known = q.known; honest = λ v is_so. none v; satisfied = subst P (sym (alone us)) q.satisfied }

  pub shows_alone : (tries : Tries) (found : Meeting) → ShowsBeside liars members tries found → Shows members tries found
  shows_alone tries (meeting.Disjoint one other) shows = (quorum_of (is_in one) shows.0, quorum_of (is_in other) shows.1, shows.2)
  shows_alone tries meeting.Intersect shows = λ us vs one other. shows us vs (beside_none us one) (beside_none vs other)
  shows_alone tries meeting.Unknown shows = shows
