use Rattle.std.proofs.Common.{◌≡◌, take}
use Rattle.scp_envelope.proofs.lists.ValueList.copy.Given as goal

abbrev pub invariant-loop-value : goal.invariant-loop-value
invariant-loop-value l = l.copied.items ≡ take l.value-index l.value-items
