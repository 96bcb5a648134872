-- An inner set has fewer sets inside than the set around it.
use Rattle.std.proofs.Common.{◌≡◌, ℕ, zero, suc, ◌<◌, ◌≤◌, List, [], ◌∷◌, length, get_or, arith, ap}
use Rattle.scp_xdr.specs.Tree.{in_a_row}
use Rattle.scp_xdr.specs.inside.TreeModel.{row_count, tree_count}
use Rattle.scp_quorum.specs.QuorumTree.{QuorumTree}

one_count : (qs : List QuorumTree) (i : ℕ) (d : QuorumTree) → i < length qs → tree_count (get_or qs i d) ≤ row_count (in_a_row qs)
one_count [] i d h = absurd (omega arith)
one_count (q ∷ qs) zero d h = omega arith
one_count (q ∷ qs) (suc i) d h = omega (arith, one_count qs i d (omega arith))

pub inner_is_smaller : (q : QuorumTree) (qs : List QuorumTree) (i : ℕ) (inner : QuorumTree) → i < length qs → in_a_row qs ≡ q.inner → inner ≡ get_or qs i inner → tree_count inner < tree_count q
inner_is_smaller q qs i inner h row is =
    omega (arith, one_count qs i inner h, ap row_count row, ap (λ (t : QuorumTree). tree_count t) is)
