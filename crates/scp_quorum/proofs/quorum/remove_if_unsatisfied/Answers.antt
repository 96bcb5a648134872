use Rattle.std.proofs.Common.{◌≡◌, true, false, sym, ◌∙◌, subst}
use Rattle.std.specs.BTreeSet.{BTreeSet}
use Rattle.std.proofs.lemmas.Bool.{OnFalse_from, OnFalse_at}
use Rattle.scp_xdr.specs.scp_types.specs.declared.names.NodeId.{NodeId}
use Rattle.scp_quorum.specs.NodeSet.{is_in}
use Rattle.scp_quorum.specs.QuorumTree.{QuorumTree}
use Rattle.scp_quorum.specs.Satisfies.{Satisfies}
use Rattle.scp_quorum.specs.inside.Groups.{IsSettled}
use Rattle.scp_quorum.proofs.Groups.{removal_keeps, absent_is_settled}
use Rattle.scp_quorum.proofs.quorum.remove_if_unsatisfied.Goals as goal

pub returns-clause-kept : goal.returns-clause-kept
returns-clause-kept c =
    let P : QuorumTree → Type 0 = λ q. Satisfies (is_in c.args.remaining.now) q in
    removal_keeps c.args.group.now (is_in c.args.remaining.now) (is_in c.remove_members.new.nodes)
    (λ h. apart (sym (c.satisfied.ensures.1 (subst P (sym c.set.ensures.value) h)) ∙ c.if-satisfied.false))
    c.remove_members.ensures.others
  where
    apart : true ≡ false → ⊥
    apart e = cc

pub returns-clause-settled : goal.returns-clause-settled
returns-clause-settled c =
    OnFalse_from c.remove_members.result _
    (λ e.
    let P : BTreeSet NodeId → Type 0 = λ s. IsSettled (is_in s) c.args.group.now in
    subst P (sym (OnFalse_at e c.remove_members.ensures.same)) (absent_is_settled c.args.group.now (is_in c.args.remaining.now) (OnFalse_at e c.remove_members.ensures.none)))
