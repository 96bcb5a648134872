-- A row of quorum sets as a list.
use Rattle.std.proofs.Common.{◌≡◌, ◌+◌, Bool, List, [], ◌∷◌, ◌++◌, nat_le, count_by, refl, ap}
use Rattle.std.specs.List.{flat_map, AllByRecursion}
use Rattle.std.proofs.lemmas.List.Recursion.{is_count_by}
use Rattle.scp_xdr.specs.scp_types.specs.declared.names.NodeId.{NodeId}
use Rattle.scp_xdr.specs.Tree.{in_a_row}
use Rattle.scp_quorum.specs.QuorumTree.{QuorumTree}
use Rattle.scp_quorum.specs.Satisfies.{satisfied_count}
use Rattle.scp_quorum.specs.Sane.{row_nodes, all_nodes, AreInRange, IsInRange}

-- whether the nodes satisfy the quorum set
abbrev pub passes : (NodeId → Bool) → QuorumTree → Bool
passes nodes q = nat_le q.head.threshold (count_by nodes q.head.validators + satisfied_count nodes q.inner)

pub satisfied_count-in_a_row : (nodes : NodeId → Bool) (qs : List QuorumTree) → satisfied_count nodes (in_a_row qs) ≡ count_by (passes nodes) qs
satisfied_count-in_a_row nodes qs = is_count_by (λ xs. satisfied_count nodes (in_a_row xs)) (passes nodes) refl (λ x xs. refl) qs

pub row_nodes-in_a_row : (qs : List QuorumTree) → row_nodes (in_a_row qs) ≡ flat_map all_nodes qs
row_nodes-in_a_row [] = refl
row_nodes-in_a_row (q ∷ qs) = ap (λ (vs : List NodeId). all_nodes q ++ vs) (row_nodes-in_a_row qs)

pub range_of_list : (qs : List QuorumTree) → AllByRecursion IsInRange qs → AreInRange (in_a_row qs)
range_of_list [] h = tt
range_of_list (q ∷ qs) h = (h.0, range_of_list qs h.1)

pub list_in_range : (qs : List QuorumTree) → AreInRange (in_a_row qs) → AllByRecursion IsInRange qs
list_in_range [] h = tt
list_in_range (q ∷ qs) h = (h.0, list_in_range qs h.1)
