-- Where no node lies: what a quest shows of the loss of nodes holds of the members.
use Rattle.std.proofs.Common.{◌≡◌, ℕ, Bool, true, false, List, get_or, refl, sym, ◌∙◌, ap, subst, inl, inr}
use Rattle.std.specs.List.{All, Any, Contains}
use Rattle.std.specs.BTreeSet.{BTreeSet}
use Rattle.std.proofs.lemmas.List.Elements.{All-contains, All-weaker}
use Rattle.scp_quorum.specs.scp_types.specs.declared.names.NodeId.{NodeId}
use Rattle.scp_quorum.specs.NodeSet.{is_in}
use Rattle.scp_quorum_search.specs.declared.member.Member.{Member}
use Rattle.scp_quorum_search.specs.declared.quest.Quest.{Quest}
use Rattle.scp_quorum_search.specs.Quorums.{IsQuorumOf, GoesOnWithout, IsHalting, IsSmallestHalting, Survives, IsListed}
use Rattle.scp_quorum_search.specs.inside.Search.{IsQuorumIn, IsBetween}
use Rattle.scp_quorum_search.specs.inside.Losses.{GoesOnIn, IsHaltingIn, IsSmallestIn, AllGathered, AreSmallest, IsHaltedBy}
use Rattle.scp_quorum_search.proofs.Honest.{quorum_in, quorum_beside, quorum_of, beside_none}
use Rattle.scp_quorum_search.proofs.Greatest.{goes_or_not}

clash : {X : Type 0} (b : Bool) → b ≡ true → b ≡ false → X
clash b is_so not_so = absurd (let f : true ≡ false = sym is_so ∙ not_so in cc)

-- the members and the nodes of a quest in which none lies
pub record IsAlone (quest : Quest) : Type 0 where
  pub free : (v : NodeId) → is_in quest.liars.now v ≡ false
  pub each : All (λ v. Any (λ m. m.node ≡ v) quest.members.now) quest.all.now
  pub honest : All (λ v. is_in quest.liars.now v ≡ false) quest.all.now
  pub every : All (λ m. is_in quest.liars.now m.node ≡ false → Contains quest.all.now m.node) quest.members.now

-- from no lost node on, the other nodes make up all that halts a node
pub between_all : (quest : Quest) (at : NodeId) (none us : NodeId → Bool) (left : List NodeId) → ((v : NodeId) → none v ≡ false) → All (λ v. (v ≡ at → ⊥) → Contains left v) quest.all.now → IsHaltingIn quest at us → IsBetween none left us
between_all quest at none us left empty others h = record {
  has = λ v taken. clash (none v) taken (empty v);
  rest = λ v is_so. inr (All-contains (λ w. (w ≡ at → ⊥) → Contains left w) quest.all.now v others (h.listed v is_so) (λ same. clash (us v) is_so (ap us same ∙ h.others)));
}

module _ (quest : Quest) (alone : IsAlone quest) where
  quorum_out : (us : NodeId → Bool) → IsQuorumIn quest us → IsQuorumOf quest.members.now us
  quorum_out us q = quorum_of quest.members.now (is_in quest.liars.now) alone.free us (quorum_beside quest alone.each alone.honest alone.every us q)

  quorum_back : (us : NodeId → Bool) → IsQuorumOf quest.members.now us → IsQuorumIn quest us
  quorum_back us q = quorum_in quest alone.each alone.honest alone.every us (beside_none quest.members.now (is_in quest.liars.now) alone.free us q)

  goes_out : (at : NodeId) (lost : NodeId → Bool) → GoesOnIn quest at lost → GoesOnWithout quest.members.now at lost
  goes_out at lost (us, q, has, apart) = (us, quorum_out us q, has, apart)

  goes_back : (at : NodeId) (lost : NodeId → Bool) → GoesOnWithout quest.members.now at lost → GoesOnIn quest at lost
  goes_back at lost (us, q, has, apart) = (us, quorum_back us q, has, apart)

  -- a node of the quest is a member, and back
  known_out : (v : NodeId) → Contains quest.all.now v → Any (λ m. m.node ≡ v) quest.members.now
  known_out v here = All-contains (λ w. Any (λ m. m.node ≡ w) quest.members.now) quest.all.now v alone.each here

  known_back : (v : NodeId) → Any (λ m. m.node ≡ v) quest.members.now → Contains quest.all.now v
  known_back v (k, m, lt, at, is) =
      let P : Member → Type 0 = λ o. is_in quest.liars.now o.node ≡ false → Contains quest.all.now o.node in
      let Q : NodeId → Type 0 = λ w. Contains quest.all.now w in
      let here : P m = subst P at (alone.every k m lt) in
      subst Q is (here (alone.free m.node))

  -- ---- the smallest sets

  halting_out : (at : NodeId) (us : NodeId → Bool) → IsHaltingIn quest at us → IsHalting quest.members.now at us
  halting_out at us h = record {
    known = λ v is_so. known_out v (h.listed v is_so);
    others = h.others;
    halts = λ goes. h.halts (goes_back at us goes);
  }

  halting_back : (at : NodeId) (us : NodeId → Bool) → IsHalting quest.members.now at us → IsHaltingIn quest at us
  halting_back at us h = record {
    listed = λ v is_so. known_back v (h.known v is_so);
    others = h.others;
    halts = λ goes. h.halts (goes_out at us goes);
  }

  smallest_out : (at : NodeId) (us : NodeId → Bool) → IsHaltingIn quest at us × IsSmallestIn quest at us → IsSmallestHalting quest.members.now at us
  smallest_out at us (h, smallest) = record {
    halting = halting_out at us h;
    smallest = λ part halting within. smallest part (λ goes. halting.halts (goes_out at part goes)) within;
  }

  smallest_back : (at : NodeId) (us : NodeId → Bool) → IsSmallestHalting quest.members.now at us → IsSmallestIn quest at us
  smallest_back at us s part halts within =
      s.smallest part (record {
        known = λ v is_so. s.halting.known v (within v is_so);
        others = not_there (part at) refl;
        halts = λ goes. halts (goes_back at part goes);
      }) within
    where
      not_there : (b : Bool) → part at ≡ b → part at ≡ false
      not_there true is = clash (us at) (within at is) s.halting.others
      not_there false is = is

  pub each_smallest : (at : NodeId) (found : List (BTreeSet NodeId)) → AreSmallest quest at found → All (λ lost. IsSmallestHalting quest.members.now at (is_in lost)) found
  each_smallest at found each =
      All-weaker (λ lost. IsHaltingIn quest at (is_in lost) × IsSmallestIn quest at (is_in lost)) (λ lost. IsSmallestHalting quest.members.now at (is_in lost))
      (λ lost here. smallest_out at (is_in lost) here) found each

  pub all_smallest : (at : NodeId) (none : NodeId → Bool) (left : List NodeId) (found : List (BTreeSet NodeId)) → ((v : NodeId) → none v ≡ false) → All (λ v. (v ≡ at → ⊥) → Contains left v) quest.all.now
      → AllGathered quest at none left found → (lost : NodeId → Bool) → IsSmallestHalting quest.members.now at lost → IsListed found lost
  all_smallest at none left found empty others gathered lost s =
      let h = halting_back at lost s.halting in
      gathered lost h (smallest_back at lost s) (between_all quest at none lost left empty others h)

  -- ---- losses that are survived

  pub survives_by : (count : ℕ) → ((at : NodeId) (us : NodeId → Bool) → Contains quest.all.now at → IsHaltedBy quest at count us → ⊥) → Survives quest.members.now count
  survives_by count never lost known few k d lt kept =
      let at : NodeId = (get_or quest.members.now k d).node in
      let here : Contains quest.all.now at = alone.every k d lt (alone.free at) in
      elim (goes_or_not quest at lost) [
        | inl goes ↦ goes_out at lost goes
        | inr halts ↦ absurd (never at lost here (record { listed = λ v is_so. known_back v (known v is_so); others = kept; halts = halts }, few))
      ]

  pub not_survived : (count : ℕ) (at : NodeId) (us : NodeId → Bool) → Contains quest.all.now at → IsHaltedBy quest at count us → Survives quest.members.now count → ⊥
  not_survived count at us here (h, few) survives = at_member (known_out at here)
    where
      goes : All (λ m. us m.node ≡ false → GoesOnWithout quest.members.now m.node us) quest.members.now
      goes = survives us (λ v is_so. known_out v (h.listed v is_so)) few

      at_member : Any (λ m. m.node ≡ at) quest.members.now → ⊥
      at_member (k, m, lt, is, same) =
          let P : Member → Type 0 = λ o. us o.node ≡ false → GoesOnWithout quest.members.now o.node us in
          let Q : NodeId → Type 0 = λ w. GoesOnWithout quest.members.now w us in
          let goes_on : P m = subst P is (goes k m lt) in
          h.halts (goes_back at us (subst Q same (goes_on (ap us same ∙ h.others))))
