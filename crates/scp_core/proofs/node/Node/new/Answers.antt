use Rattle.std.proofs.Common.{ℕ, ◌+◌, List, [], ap, subst, inl, refl, sym, ◌∙◌}
use Rattle.std.specs.Prelude.{IfOk}
use Rattle.scp_core.specs.Headline.{HoldsHeadline}
use Rattle.scp_core.specs.Node.{Step}
use Rattle.scp_core.specs.Theorem.{LedgerTheorem, LedgerTheoremFrom}
use Rattle.scp_core.proofs.Starting.{if_ok, begun_at_1, refusals}
use Rattle.scp_core.proofs.node.Node.new.Goals as goal

pub returns-clause-theorem : goal.returns-clause-theorem
returns-clause-theorem g c = begun_at_1 g.A.Driver.says c.at_slot_1.result.before c.at_slot_1.result.base.items c.made.result c.at_slot_1.ensures.slot c.at_slot_1.ensures.base c.made.ensures.theorem

pub returns-clause-headline : goal.returns-clause-headline
returns-clause-headline g c = if_ok (LedgerTheorem g.A.Driver.says []) (HoldsHeadline (Step g.A.Driver.says) g.A.Application.first g.A.Application.after []) c.made.result (λ v h. c.each_node_holds_its_headline.ensures.headline [] v (c.each_node_holds_its_ledger.ensures.ledger [] v h)) (returns-clause-theorem g c)

pub returns-clause-only : goal.returns-clause-only
returns-clause-only g c = refusals c.made.result (inl c.at_slot_1.ensures.base) c.made.ensures.no_state c.made.ensures.only
