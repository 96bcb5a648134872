use Rattle.std.proofs.Common.{◌≡◌, ◌+◌, Bool, List, [], take, arith, sym, ◌∙◌, ap, subst, false}
use Rattle.std.specs.List.{All}
use Rattle.std.specs.BTreeSet.{BTreeSet, btree_set_len}
use Rattle.std.proofs.lemmas.Bool.{OnFalse_from, OnFalse_at}
use Rattle.std.proofs.lemmas.Grind.{common_steps}
use Rattle.std.proofs.lemmas.List.Elements.{All-contains}
use Rattle.scp_xdr.specs.scp_types.specs.declared.names.NodeId.{NodeId}
use Rattle.scp_quorum.specs.NodeSet.{is_in}
use Rattle.scp_quorum.proofs.Members.{IsRemoving, removing_none, removing_one, removing_no_one}
use Rattle.scp_quorum.proofs.quorum.groups.remove_members.Goals as goal
use Rattle.scp_quorum.proofs.quorum.groups.remove_members.Goals.{then-remove, else-remove}

pub loop-member-init : goal.loop-member-init
loop-member-init c = record {
  removing = removing_none c.deref-member-items.result.now c.args.nodes.now;
  all = c.deref-member-items.ensures.value;
}

pub loop-member-preserved : goal.loop-member-preserved
loop-member-preserved c =
    let members = c.deref-member-items.result.now in
    let old = c.args.nodes.now in
    let now = c.loop-member.nodes in
    let i = c.loop-member.member-index in
    let seen = take (i + 1) members in
    let so_far = c.loop-member.invariant.removing in
    let no_node : NodeId = record { 0 = [] } in
    elim c.if-remove.branch [
      | then-remove w ↦ (
          let R : Bool → Type 0 = λ b. IsRemoving members old c.remove.new.self b seen in
          let len : btree_set_len c.remove.new.self + 1 ≡ btree_set_len now = rw w.if-remove.true at c.remove.ensures.len in
          record {
            removing = subst R (sym w.removed-is) (removing_one members old now c.loop-member.removed i no_node c.loop-member-test.true so_far c.remove.new.self c.remove.ensures.updates.0 len);
            all = c.loop-member.invariant.all;
          })
      | else-remove w ↦ (
          let R : BTreeSet NodeId → Type 0 = λ s. IsRemoving members old s c.if-remove.removed seen in
          let Q : Bool → Type 0 = λ b. IsRemoving members old now b seen in
          let kept : c.remove.new.self ≡ now = ap (λ (ks : List NodeId). let s : BTreeSet NodeId = record { keys = ks } in s) (OnFalse_at w.if-remove.false c.remove.ensures.unchanged) in
          record {
            removing = subst R (sym kept) (subst Q (sym w.removed-is) (removing_no_one members old now c.loop-member.removed i no_node c.loop-member-test.true so_far (sym c.remove.ensures.test ∙ w.if-remove.false)));
            all = c.loop-member.invariant.all;
          })
    ]

pub returns-clause-none : goal.returns-clause-none
returns-clause-none c =
    OnFalse_from c.loop-member.removed _
    (λ e v member.
    let P : NodeId → Type 0 = λ v. is_in c.args.nodes.now v ≡ false in
    let Q : List NodeId → Type 0 = λ vs. All P vs in
    let whole : take c.loop-member.member-index c.deref-member-items.result.now ≡ c.args.group.now.members.items = grind (arith, common_steps) in
    All-contains P c.args.group.now.members.items v (subst Q whole (c.loop-member.invariant.removing.none e)) member)
