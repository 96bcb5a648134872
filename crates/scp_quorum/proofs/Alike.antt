-- A set that begins with nodes of which enough are there.
use Rattle.std.proofs.Common.{◌≡◌, ℕ, ◌≤◌, Bool, cond, List, length, take, count_by, arith, ap}
use Rattle.std.proofs.lemmas.List.Sums.{sum_by-take-le}
use Rattle.scp_xdr.specs.scp_types.specs.declared.names.NodeId.{NodeId}
use Rattle.scp_quorum.specs.QuorumTree.{QuorumTree}
use Rattle.scp_quorum.specs.Satisfies.{Satisfies}

pub satisfied_by_head : (nodes : NodeId → Bool) (q : QuorumTree) (head : List NodeId) (k : ℕ) → k ≤ count_by nodes head → q.head.threshold ≤ k → take (length head) q.head.validators ≡ head → Satisfies nodes q
satisfied_by_head nodes q head k enough less begins =
    let some : count_by nodes (take (length head) q.head.validators) ≤ count_by nodes q.head.validators = sum_by-take-le (λ (v : NodeId). cond (nodes v) 1 0) q.head.validators (length head) in
    let same : count_by nodes (take (length head) q.head.validators) ≡ count_by nodes head = ap (λ (vs : List NodeId). count_by nodes vs) begins in
    omega (arith, enough, less, some, same)
