use Rattle.std.proofs.Common.{◌≡◌, ◌++◌, map, drop}
use Rattle.scp_trace_text.specs.Facts.{others}
use Rattle.scp_trace_text.proofs.told.others.Given as goal

-- with those of what is left they are all
abbrev pub invariant-loop-next : goal.invariant-loop-next
invariant-loop-next l = l.links.items ++ others l.told (map (λ told. told.now) (drop l.next-index l.more)) ≡ others l.told (map (λ told. told.now) l.more)
