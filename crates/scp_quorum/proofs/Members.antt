-- The members of a group, removed from nodes one after another.
use Rattle.std.proofs.Common.{◌≡◌, ℕ, ◌+◌, ◌<◌, ◌≤◌, Bool, true, false, cond, List, take, length, get_or, arith, refl, sym, ◌∙◌, ap, subst, inl, inr}
use Rattle.std.specs.List.{All, Contains}
use Rattle.std.specs.BTreeMap.{is_at}
use Rattle.std.specs.BTreeSet.{BTreeSet, btree_set_len}
use Rattle.std.proofs.lemmas.List.Elements.{All-more, Contains-get_or}
use Rattle.scp_xdr.specs.scp_types.specs.declared.names.NodeId.{NodeId}
use Rattle.scp_quorum.specs.NodeSet.{node_cmp, is_in}
use Rattle.scp_quorum.specs.Quorum.{IsWithin}
use Rattle.scp_quorum.proofs.Pass.{decided, same_at}

-- what holds once the seen members are removed
pub record IsRemoving (members : List NodeId) (old now : BTreeSet NodeId) (removed : Bool) (seen : List NodeId) : Type 0 where
  pub within : IsWithin (is_in now) (is_in old)
  pub others : (v : NodeId) → is_in old v ≡ true → (Contains members v → ⊥) → is_in now v ≡ true
  pub no_more : btree_set_len now ≤ btree_set_len old
  pub fewer : removed ≡ true → btree_set_len now < btree_set_len old
  pub same : removed ≡ false → now ≡ old
  pub none : removed ≡ false → All (λ v. is_in old v ≡ false) seen

pub removing_none : (members : List NodeId) (old : BTreeSet NodeId) → IsRemoving members old old false (take 0 members)
removing_none members old = record {
  within = λ v has. has;
  others = λ v has apart. has;
  no_more = omega arith;
  fewer = λ e. absurd (let f : false ≡ true = e in cc);
  same = λ e. refl;
  none = λ e k d h. absurd (omega arith);
}

module _ (members : List NodeId) (old now : BTreeSet NodeId) (removed : Bool) (i : ℕ) (d : NodeId) (here : i < length members) (so_far : IsRemoving members old now removed (take i members)) where
  pub removing_one : (new : BTreeSet NodeId) → ((w : NodeId) → is_in new w ≡ cond (is_at (node_cmp (get_or members i d)) w) false (is_in now w)) → btree_set_len new + 1 ≡ btree_set_len now → IsRemoving members old new true (take (i + 1) members)
  removing_one new others len = record {
    within = λ w has. so_far.within w (remains (is_at (node_cmp (get_or members i d)) w) (is_in now w) (sym (others w) ∙ has));
    others = λ w has apart.
        elim (decided (is_at (node_cmp (get_or members i d)) w)) [
          | inl same ↦ absurd (apart (let C : NodeId → Type 0 = λ x. Contains members x in subst C (same_at (get_or members i d) w same) (Contains-get_or members i d here)))
          | inr other ↦ others w ∙ ap (λ b. cond b false (is_in now w)) other ∙ so_far.others w has apart
        ];
    no_more = omega (arith, so_far.no_more);
    fewer = λ _. omega (arith, so_far.no_more);
    same = λ e. absurd (let f : true ≡ false = e in cc);
    none = λ e. absurd (let f : true ≡ false = e in cc);
  }
    where
      remains : (b n : Bool) → cond b false n ≡ true → n ≡ true
      remains true n h = cc
      remains false n h = h

  pub removing_no_one : is_in now (get_or members i d) ≡ false → IsRemoving members old now removed (take (i + 1) members)
  removing_no_one absent = record {
    within = so_far.within;
    others = so_far.others;
    no_more = so_far.no_more;
    fewer = so_far.fewer;
    same = so_far.same;
    none = λ e.
        let P : NodeId → Type 0 = λ w. is_in old w ≡ false in
        let gone : is_in old (get_or members i d) ≡ false = ap (λ (s : BTreeSet NodeId). is_in s (get_or members i d)) (sym (so_far.same e)) ∙ absent in
        All-more P members i d here (so_far.none e) gone;
  }
