use Rattle.std.proofs.Common.{rules, ◌≡◌, true}
use Rattle.std.specs.Prelude.{is_ok}
use Rattle.scp_core.proofs.Handlers.{on_ok}
use Rattle.scp_core.proofs.running.run.Goals as goal

pub returns-clause-theorem : goal.returns-clause-theorem
returns-clause-theorem g c = let ok : is_ok c.answer_all.result ≡ true = search rules in on_ok _ c.answer_all.result ok c.answer_all.ensures.theorem

pub returns-clause-count : goal.returns-clause-count
returns-clause-count g c = let ok : is_ok c.answer_all.result ≡ true = search rules in on_ok _ c.answer_all.result ok c.answer_all.ensures.count

pub returns-clause-ledger : goal.returns-clause-ledger
returns-clause-ledger g c = let ok : is_ok c.answer_all.result ≡ true = search rules in c.each_node_holds_its_ledger.ensures.ledger _ _ (on_ok _ c.answer_all.result ok c.answer_all.ensures.theorem)

pub returns-clause-headline : goal.returns-clause-headline
returns-clause-headline g c = let ok : is_ok c.answer_all.result ≡ true = search rules in c.each_node_holds_its_headline.ensures.headline _ _ (c.each_node_holds_its_ledger.ensures.ledger _ _ (on_ok _ c.answer_all.result ok c.answer_all.ensures.theorem))
