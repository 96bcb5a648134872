use Rattle.std.proofs.Common.{rules}
use Rattle.scp_driver.specs.Driver.{IsFull}
use Rattle.scp_nominate.proofs.Knowing.{learns_one}
use Rattle.scp_nominate.proofs.known.know_one.Goals as goal

pub returns-clause-learns : goal.returns-clause-learns
returns-clause-learns g c =
    let full : IsFull (g.D.Driver.says.level c.args.driver.now) c.args.slot.0 c.args.value.now = search rules in
    learns_one (IsFull (g.D.Driver.says.level c.args.driver.now) c.args.slot.0) c.args.value.now c.args.known.now c.add.new.set full c.in_ok-add.ensures.more c.in_ok-add.ensures.added c.in_ok-add.ensures.only
