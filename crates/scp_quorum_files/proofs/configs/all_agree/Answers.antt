use Rattle.std.proofs.Common.{arith, sym}
use Rattle.std.proofs.lemmas.Bool.{iff_false}
use Rattle.scp_quorum_search.proofs.Rows.{one_more}
use Rattle.scp_quorum_search.proofs.Sets.{all_seen}
use Rattle.scp_quorum_files.specs.inside.Agreeing.{Agrees}
use Rattle.scp_quorum_files.proofs.configs.all_agree.Goals as goal

pub returns-then-not-agrees-clause-not_all : goal.returns-then-not-agrees-clause-not_all
returns-then-not-agrees-clause-not_all c = (c.loop-node.node-index, c.node-item.result, c.loop-node-test.true, sym c.node-item.is, iff_false c.agrees.ensures c.if-not-agrees.true)

pub loop-node-preserved : goal.loop-node-preserved
loop-node-preserved c =
    one_more (λ n. Agrees n c.args.identity.now) c.args.nodes.now c.loop-node.node-index c.node-item.result c.loop-node-test.true c.node-item.is c.loop-node.invariant (c.agrees.ensures.0 c.if-not-agrees.false)

pub returns-clause-all : goal.returns-clause-all
returns-clause-all c = all_seen (λ n. Agrees n c.args.identity.now) c.args.nodes.now c.loop-node.node-index (omega arith) c.loop-node.invariant
