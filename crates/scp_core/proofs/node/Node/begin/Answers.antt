use Rattle.std.specs.Prelude.{◌+◌, []}
use Rattle.scp_core.specs.Headline.{HoldsHeadlineFrom}
use Rattle.scp_core.specs.Node.{Step}
use Rattle.scp_core.specs.Theorem.{LedgerTheoremFrom}
use Rattle.scp_core.proofs.Starting.{if_ok}
use Rattle.scp_core.proofs.node.Node.begin.Goals as goal

pub returns-clause-headline : goal.returns-clause-headline
returns-clause-headline g c =
    let first = c.args.before + 1 in
    let base = c.args.base.items in
    if_ok (LedgerTheoremFrom g.A.Driver.says first base []) (HoldsHeadlineFrom (Step g.A.Driver.says) g.A.Application.begins g.A.Application.after first base []) c.made.result (λ v h. c.each_node_holds_its_headline.ensures.from first base [] v (c.each_node_holds_its_ledger.ensures.from first base [] v h)) c.made.ensures.theorem
