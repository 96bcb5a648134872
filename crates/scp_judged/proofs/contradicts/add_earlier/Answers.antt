use Rattle.std.proofs.Common.{map, arith}
use Rattle.scp_judged.specs.Contradicts.{ContradictAt}
use Rattle.scp_judged.proofs.Contradicting.{said, row_none, row_step, row_all}
use Rattle.scp_judged.proofs.contradicts.add_earlier.Goals as goal

pub loop-i-init : goal.loop-i-init
loop-i-init c = row_none c.args.found.now.items (ContradictAt (map said c.args.messages.now)) c.args.at

pub loop-i-preserved : goal.loop-i-preserved
loop-i-preserved c =
    row_step c.args.messages.now c.args.found.now.items c.loop-i.found.items c.add_if.new.found.items c.args.at c.loop-i.i c.index-messages-i.result c.index-messages-at.result (omega arith) c.requires c.index-messages-i.is c.index-messages-at.is c.in_ok-add_if.ensures c.loop-i.invariant

pub returns : goal.returns
returns c = row_all c.args.messages.now c.args.found.now.items c.loop-i.found.items c.args.at c.loop-i.i (omega arith) c.loop-i.invariant
