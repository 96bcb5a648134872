use Rattle.std.proofs.Common.{◌∙◌, List, ap, arith}
use Rattle.scp_ledger.specs.Journal.{Heard}
use Rattle.scp_judged.specs.Verdicts.{heard_by}
use Rattle.scp_judged.proofs.Saying.{last_more, taken_all}
use Rattle.scp_judged.proofs.certificates.last_ballot.Goals as goal

pub loop-said-preserved : goal.loop-said-preserved
loop-said-preserved c = last_more c.args.counting.now c.args.node c.loop-said.said-index c.said-item.result _ _ (omega arith) c.said-item.is c.loop-said.invariant c.later-last.ensures

pub returns : goal.returns
returns c = c.loop-said.invariant ∙ ap (λ (l : List Heard). heard_by l c.args.node) (taken_all c.args.counting.now c.loop-said.said-index (omega arith))
