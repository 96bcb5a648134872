use Rattle.std.proofs.Math.Path.{fun_ext}
use Rattle.scp_quorum_search.specs.scp_quorum.specs.NodeSet.{is_in}
use Rattle.scp_quorum_files.proofs.Lines.{one_node, empty_has_none}
use Rattle.scp_quorum_files.proofs.report.alone.Goals as goal

pub returns : goal.returns
returns c = fun_ext (one_node c.args.node (is_in c.new-nodes.result) (is_in c.insert.new.self) c.in_ok-insert.ensures.updates.0 (empty_has_none c.new-nodes.result c.new-nodes.ensures.empty))
