use Rattle.std.proofs.Common.{◌≡◌, ◌≤◌, ◌+◌, drop, map}
use Rattle.scp_facts.specs.Taken.{ticks}
use Rattle.scp_facts.proofs.taken.ticks_of.Given as goal

-- with what is left it is all
abbrev pub invariant-loop-happening : goal.invariant-loop-happening
invariant-loop-happening l = record {
  few : l.count ≤ l.happening-index;
  so_far : l.count + ticks (map (λ h. h.now) (drop l.happening-index l.happenings)) ≡ ticks (map (λ h. h.now) l.happenings);
}
