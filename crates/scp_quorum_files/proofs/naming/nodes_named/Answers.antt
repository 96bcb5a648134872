use Rattle.std.proofs.Common.{sym, ◌∙◌}
use Rattle.scp_quorum_search.specs.scp_quorum.specs.NodeSet.{is_in}
use Rattle.scp_quorum_files.specs.Naming.{node_named}
use Rattle.scp_quorum_files.proofs.Reached.{found_at}
use Rattle.scp_quorum_files.proofs.naming.nodes_named.Goals as goal

pub loop-place-preserved : goal.loop-place-preserved
loop-place-preserved c =
    found_at (λ name. node_named c.args.nodes.now name.now) c.args.names.now c.loop-place.place _ c.in-Some.node (is_in c.loop-place.found) (is_in c.insert.new.self) c.loop-place-test.true (sym c.node_named.ensures ∙ c.in-Some.is) c.in_ok-insert-in-Some.ensures.updates.0 c.loop-place.invariant
