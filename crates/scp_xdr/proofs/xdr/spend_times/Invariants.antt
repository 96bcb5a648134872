use Rattle.std.proofs.Common.{◌≡◌, ◌+◌, take}
use Rattle.std.specs.List.{sum_by}
use Rattle.scp_xdr.specs.Length.{spelled_len}
use Rattle.scp_xdr.proofs.xdr.spend_times.Given as goal

-- the room is what is left and the lengths of the values so far
abbrev pub invariant-loop-item : goal.invariant-loop-item
invariant-loop-item g l = l.room ≡ l.left + sum_by (λ x. spelled_len g.T.Xdr.kind (g.T.Xdr.value x)) (take l.item-index l.items)
