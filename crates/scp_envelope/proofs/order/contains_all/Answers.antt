use Rattle.std.proofs.Common.{rules}
use Rattle.std.specs.List.{Contains}
use Rattle.std.proofs.lemmas.Iterator.{cases_from_all, YieldsList-from_slice}
use borrow.Author.Tests.{tests}
use Rattle.scp_envelope.proofs.Growing.{contains_all_decided}
use Rattle.scp_envelope.proofs.order.contains_all.Goals as goal

pub returns : goal.returns
returns c =
    contains_all_decided c.args.new.now c.args.old.now c.all.result (
    cases_from_all _ _ c.all.result (λ v. Contains c.args.new.now v) (λ v. ¬ (Contains c.args.new.now v)) c.all.ensures.ran (YieldsList-from_slice c.args.old.now cc) (λ x q k. search (rules, tests)) (λ x q k. search (rules, tests)))
