use Rattle.std.proofs.Common.{◌≡◌, take}
use Rattle.std.specs.Prelude.{nat_eq}
use Rattle.std.specs.List.{list_any}
use Rattle.std.specs.Cmp.Lexicographic.{pointwise}
use Rattle.scp_quorum_search.specs.scp_types.specs.declared.names.NodeId.{NodeId}
use Rattle.scp_quorum_search.specs.scp_quorum.specs.NodeSet.{is_in}
use Rattle.scp_quorum_files.proofs.report.set_of.Given as goal

abbrev pub invariant-loop-node : goal.invariant-loop-node
invariant-loop-node l = (v : NodeId) → is_in l.set v ≡ list_any (λ w. pointwise nat_eq w.0 v.0) (take l.node-index l.nodes)
