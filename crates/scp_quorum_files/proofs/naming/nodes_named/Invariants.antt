use Rattle.std.proofs.Common.{◌≡◌, true, take, Some}
use Rattle.std.specs.Prelude.{◌↔◌}
use Rattle.std.specs.List.{Any}
use Rattle.scp_quorum_search.specs.scp_types.specs.declared.names.NodeId.{NodeId}
use Rattle.scp_quorum_search.specs.scp_quorum.specs.NodeSet.{is_in}
use Rattle.scp_quorum_files.specs.Naming.{node_named}
use Rattle.scp_quorum_files.proofs.naming.nodes_named.Given as goal

abbrev pub invariant-loop-place : goal.invariant-loop-place
invariant-loop-place l = (v : NodeId) → (is_in l.found v ≡ true) ↔ Any (λ name. node_named l.nodes name.now ≡ Some v) (take l.place l.names)
