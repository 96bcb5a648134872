use Rattle.std.proofs.Common.{◌≡◌, ◌++◌, List, sym, subst, append-nil, arith}
use Rattle.std.specs.Prelude.{flat_map}
use Rattle.scp_core.specs.scp_ledger.specs.declared.journal.Decision.{Decision}
use Rattle.scp_again.specs.Again.{own_of}
use Rattle.scp_again.proofs.Adding.{added_more, added_all}
use Rattle.scp_again.proofs.again.add_decided.Goals as goal

pub loop-decision-init : goal.loop-decision-init
loop-decision-init c = sym (append-nil c.args.out.now.items)

pub loop-decision-preserved : goal.loop-decision-preserved
loop-decision-preserved c =
    let before = c.loop-decision.out.items in
    let after' = c.add_origin.new.out.items in
    added_more (λ (d : Decision). own_of d.origin) c.args.out.now.items before after' c.last-decision-items.result.now c.loop-decision.decision-index c.decision-item.result (omega arith) c.decision-item.is c.loop-decision.invariant
    (subst (λ (d : Decision). after' ≡ before ++ own_of d.origin) c.get.ensures.same c.in_ok-add_origin.ensures.added)

pub returns-clause-added : goal.returns-clause-added
returns-clause-added c =
    let f = λ (d : Decision). own_of d.origin in
    let a = c.args.out.now.items in
    let b = c.loop-decision.out.items in
    subst (λ (ds : List Decision). b ≡ a ++ flat_map f ds) c.last-decision-items.ensures
    (added_all f a b c.last-decision-items.result.now c.loop-decision.decision-index (omega arith) c.loop-decision.invariant)
