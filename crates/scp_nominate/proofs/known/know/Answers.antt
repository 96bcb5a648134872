use Rattle.std.proofs.Common.{◌<◌, length, arith}
use Rattle.scp_driver.specs.Driver.{IsFull}
use Rattle.scp_nominate.proofs.Knowing.{learns_start, learns_more, learns_all}
use Rattle.scp_nominate.proofs.known.know.Goals as goal

pub loop-value-init : goal.loop-value-init
loop-value-init g c = learns_start (IsFull (g.D.Driver.says.level c.args.driver.now) c.args.slot.0) c.args.values.now c.args.known.now

pub loop-value-preserved : goal.loop-value-preserved
loop-value-preserved g c =
    let lt : c.loop-value.value-index < length c.args.values.now = omega arith in
    learns_more (IsFull (g.D.Driver.says.level c.args.driver.now) c.args.slot.0) c.args.values.now c.loop-value.value-index c.value-item.result lt c.value-item.is c.args.known.now c.loop-value.known c.know_one.new.known c.loop-value.invariant c.in_ok-know_one.ensures.learns

pub returns-clause-learns : goal.returns-clause-learns
returns-clause-learns g c = learns_all (IsFull (g.D.Driver.says.level c.args.driver.now) c.args.slot.0) c.args.values.now c.loop-value.value-index c.args.known.now c.loop-value.known (omega arith) c.loop-value.invariant
