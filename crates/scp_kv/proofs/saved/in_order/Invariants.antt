use Rattle.std.proofs.Common.{length}
use Rattle.scp_kv.proofs.Bytes.{IsBuilt}
use Rattle.scp_kv.proofs.saved.in_order.Given as goal

-- what is no longer left is in the state
abbrev pub invariant-loop-entry : goal.invariant-loop-entry
invariant-loop-entry l = IsBuilt l.initial.entries.items l.entries.items l.state

abbrev pub decreases-loop-entry : goal.decreases-loop-entry
decreases-loop-entry l = length l.entries.items
