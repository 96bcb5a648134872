use Rattle.std.proofs.Common.{◌≡◌, map}
use Rattle.scp_kv.specs.Map.{KvMap}
use Rattle.scp_kv.specs.Op.{op_value}
use Rattle.scp_kv.specs.State.{after_ops, IsAfterPart}
use Rattle.scp_kv.proofs.state.apply_value.Given as goal

-- the operations that are left lead from the state now to where all of them lead, and a part of them to where a part of all leads
abbrev pub invariant-loop-op : goal.invariant-loop-op
invariant-loop-op l =
    record {
      leads : after_ops l.state (map op_value l.op-iterator.rest.items) ≡ after_ops l.initial.state (map op_value l.initial.op-iterator.rest.items);
      part : (end : KvMap) → IsAfterPart l.state (map op_value l.op-iterator.rest.items) end → IsAfterPart l.initial.state (map op_value l.initial.op-iterator.rest.items) end;
    }
