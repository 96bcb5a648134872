use Rattle.std.proofs.Common.{◌≡◌, ◌∙◌, sym, arith}
use Rattle.std.proofs.lemmas.List.{at_drop_all}
use Rattle.scp_driver.specs.Kv.{greatest, greatest_from}
use Rattle.scp_driver.proofs.Greatest.{greatest_is}
use Rattle.scp_driver.proofs.kv_driver.greatest_of.Goals as goal

pub returns-clause-greatest : goal.returns-clause-greatest
returns-clause-greatest c =
    let same : c.loop-value.best.now ≡ greatest c.args.values.now = sym (at_drop_all (greatest_from c.loop-value.best.now) _ c.loop-value.value-index (omega (arith, c.loop-value-test.false))) ∙ c.loop-value.invariant in
    greatest_is c.args.values.now _ c.requires.some same
