-- A part of an operation list that was applied.
use Rattle.std.proofs.Common.{◌≡◌, ◌∷◌, [], refl, ap}
use Rattle.scp_xdr.specs.Kind.{Values}
use Rattle.scp_kv.specs.Map.{KvMap}
use Rattle.scp_kv.specs.Op.{op_kind, ops_kind}
use Rattle.scp_kv.specs.State.{after_op, after_ops, IsAfterPart}

pub none_applied : (state : KvMap) (ops : Values ops_kind) → IsAfterPart state ops state
none_applied state ops = record { done = []; rest = ops; splits = refl; applied = refl }

pub one_more_applied : (state : KvMap) (op : Values op_kind) (ops : Values ops_kind) (end : KvMap) → IsAfterPart (after_op state op) ops end → IsAfterPart state (op ∷ ops) end
one_more_applied state op ops end h = record { done = op ∷ h.done; rest = h.rest; splits = ap (λ (l : Values ops_kind). op ∷ l) h.splits; applied = h.applied }
