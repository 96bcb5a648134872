use Rattle.std.proofs.Common.{◌≡◌, ◌+◌, ◌++◌, drop, map}
use Rattle.scp_live_head.specs.Applied.{lines_from}
use Rattle.scp_live_head.proofs.applied.lines_of.Given as goal

abbrev pub invariant-loop-value : goal.invariant-loop-value
invariant-loop-value l = record {
  lines : l.lines.items ++ lines_from l.number (map (λ v. v.items) (drop l.value-index l.values)) ≡ lines_from l.slot (map (λ v. v.items) l.values);
  at : l.number ≡ l.slot + l.value-index;
}
