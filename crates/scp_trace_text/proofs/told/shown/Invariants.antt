use Rattle.std.proofs.Common.{◌≡◌, ◌++◌, map, drop}
use Rattle.scp_trace_text.specs.Facts.{shown}
use Rattle.scp_trace_text.proofs.told.shown.Given as goal

-- with those of what is left they are all
abbrev pub invariant-loop-telling : goal.invariant-loop-telling
invariant-loop-telling l = map (λ told. told.now) l.facts.items ++ shown (drop l.telling-index l.tellings) ≡ shown l.tellings
