use Rattle.std.proofs.Common.{take, Contains, IsSome}
use Rattle.scp_kv.specs.Op.{ops_in}
use Rattle.scp_stand_needs.specs.inside.Found.{Adds}
use Rattle.scp_stand_needs.proofs.nominated.add_values.Given as goal

-- those so far
abbrev pub invariant-loop-value : goal.invariant-loop-value
invariant-loop-value l = Adds (λ v. Contains (take l.value-index l.more) v × IsSome (ops_in v)) l.fn.values l.values
