use Rattle.std.proofs.Common.{string_bytes, arith}
use Rattle.scp_quorum_search.specs.scp_quorum.specs.NodeSet.{is_in}
use Rattle.std.proofs.lemmas.Result.{on_ok_weaker}
use Rattle.scp_quorum_files.proofs.Lines.{names_step, names_done}
use Rattle.scp_quorum_files.proofs.report.write_names.Goals as goal

pub loop-node-preserved : goal.loop-node-preserved
loop-node-preserved c =
    names_step c.args.all.now (is_in c.args.nodes.now) c.loop-node.node-index c.node-item.result c.loop-node.first _ (string_bytes c.loop-node.out) _ _ c.loop-node-test.true c.node-item.is c.in_ok-first.ensures.written c.in_ok-first.ensures.first c.loop-node.invariant

pub returns : goal.returns
returns c =
    on_ok_weaker c.write_none.result
    (λ added. names_done c.args.all.now (is_in c.args.nodes.now) c.loop-node.node-index c.loop-node.first (string_bytes c.loop-node.out) _ _ (omega arith) added c.loop-node.invariant)
    c.write_none.ensures
