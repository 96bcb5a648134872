-- Members that the nodes don't satisfy, removed one after another.
use Rattle.std.proofs.Common.{◌≡◌, ℕ, ◌+◌, ◌<◌, ◌≤◌, Bool, true, false, cond, List, [], take, length, get_or, arith, sym, ◌∙◌, ap, subst, inl, inr}
use Rattle.std.specs.List.{All}
use Rattle.std.specs.BTreeMap.{is_at}
use Rattle.std.specs.BTreeSet.{BTreeSet, btree_set_len}
use Rattle.std.proofs.lemmas.Bool.{cases_Bool, or_left, or_right, or_cases}
use Rattle.std.proofs.lemmas.List.Elements.{All-more, All-nil}
use Rattle.scp_quorum.specs.scp_types.specs.declared.names.NodeId.{NodeId}
use Rattle.scp_quorum.specs.NodeSet.{node_cmp, is_in}
use Rattle.scp_quorum.specs.Quorum.{IsWithin}
use Rattle.scp_quorum.specs.Satisfies.{Satisfies}
use Rattle.scp_quorum.proofs.Blocking.{Satisfies-within}
use Rattle.scp_quorum.proofs.Pass.{same_at}
use Rattle.scp_quorum_search.specs.declared.member.Member.{Member}
use Rattle.scp_quorum_search.specs.Beside.{either, SatisfyBeside}

pub either_within : (liars us ws : NodeId → Bool) → IsWithin us ws → IsWithin (either liars us) (either liars ws)
either_within liars us ws within v has =
    elim (or_cases (liars v) (us v) has) [
      | inl lies ↦ or_left (liars v) (ws v) lies
      | inr in_us ↦ or_right (liars v) (ws v) (within v in_us)
    ]

-- the members' condition on one member
abbrev pub IsContent : (NodeId → Bool) → (NodeId → Bool) → Member → Type 0
IsContent liars us m = us m.node ≡ true → Satisfies (either liars us) m.set

module _ (node : NodeId) (old new : NodeId → Bool) (updates : (v : NodeId) → new v ≡ cond (is_at (node_cmp node) v) false (old v)) where
  pub removed_within : IsWithin new old
  removed_within v has =
      elim (cases_Bool (is_at (node_cmp node) v)) [
        | inl at ↦ (let not_so : false ≡ true = sym (ap (λ b. cond b false (old v)) at) ∙ sym (updates v) ∙ has in absurd (let f : false ≡ true = not_so in cc))
        | inr off ↦ sym (ap (λ b. cond b false (old v)) off) ∙ sym (updates v) ∙ has
      ]

  pub removed_keeps : (liars us : NodeId → Bool) (m : Member) → m.node ≡ node → (Satisfies (either liars old) m.set → ⊥) → IsContent liars us m → IsWithin us old → IsWithin us new
  removed_keeps liars us m is fails content within v has =
      elim (cases_Bool (is_at (node_cmp node) v)) [
        | inl at ↦ (
            let here : us m.node ≡ true = ap us (is ∙ same_at node v at) ∙ has in
            absurd (fails (Satisfies-within (either liars us) (either liars old) (either_within liars us old within) m.set (content here))))
        | inr off ↦ updates v ∙ ap (λ b. cond b false (old v)) off ∙ within v has
      ]

-- what holds once the seen members are tested, and some are removed
pub record IsPass (liars : NodeId → Bool) (members : List Member) (old now : BTreeSet NodeId) (removed : Bool) (seen : List Member) : Type 0 where
  pub within : IsWithin (is_in now) (is_in old)
  pub kept : (us : NodeId → Bool) → SatisfyBeside liars members us → IsWithin us (is_in old) → IsWithin us (is_in now)
  pub no_more : btree_set_len now ≤ btree_set_len old
  pub fewer : removed ≡ true → btree_set_len now < btree_set_len old
  pub settled : removed ≡ false → All (IsContent liars (is_in now)) seen

pub pass_none : (liars : NodeId → Bool) (members : List Member) (old : BTreeSet NodeId) → IsPass liars members old old false []
pass_none liars members old = record {
  within = λ v has. has;
  kept = λ us closed within. within;
  no_more = omega arith;
  fewer = λ e. absurd (let f : false ≡ true = e in cc);
  settled = λ e. All-nil (IsContent liars (is_in old));
}

module _ (liars : NodeId → Bool) (members : List Member) (old now new : BTreeSet NodeId) (removed : Bool) (i : ℕ) (m : Member) (here : i < length members) (is : m ≡ get_or members i m) (so_far : IsPass liars members old now removed (take i members)) where
  pub pass_removes : IsWithin (is_in new) (is_in now) → ((us : NodeId → Bool) → IsContent liars us m → IsWithin us (is_in now) → IsWithin us (is_in new)) → btree_set_len new < btree_set_len now → IsPass liars members old new true (take (i + 1) members)
  pass_removes within kept fewer = record {
    within = λ v has. so_far.within v (within v has);
    kept = λ us closed inside.
        let P : Member → Type 0 = IsContent liars us in
        kept us (subst P (sym is) (closed i m here)) (so_far.kept us closed inside);
    no_more = omega (arith, so_far.no_more);
    fewer = λ _. omega (arith, so_far.no_more);
    settled = λ e. absurd (let f : true ≡ false = e in cc);
  }

  pub pass_stays : new ≡ now → IsContent liars (is_in now) m → IsPass liars members old new removed (take (i + 1) members)
  pass_stays same content =
      let Q : BTreeSet NodeId → Type 0 = λ s. IsPass liars members old s removed (take (i + 1) members) in
      let P : Member → Type 0 = IsContent liars (is_in now) in
      subst Q (sym same) (record {
        within = so_far.within;
        kept = so_far.kept;
        no_more = so_far.no_more;
        fewer = so_far.fewer;
        settled = λ e. All-more P members i m here (so_far.settled e) (subst P is content);
      })
