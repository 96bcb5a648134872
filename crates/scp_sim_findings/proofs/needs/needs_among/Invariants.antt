use Rattle.std.proofs.Common.{◌≡◌, ◌++◌, drop, flat_map, map}
use Rattle.scp_sim_findings.specs.Needs.{need_text}
use Rattle.scp_sim_findings.proofs.needs.needs_among.Given as goal

-- with those of what is left they are all
abbrev pub invariant-loop-line : goal.invariant-loop-line
invariant-loop-line l = l.needs.items ++ flat_map need_text (map (λ line. line.now) (drop l.line-index l.lines)) ≡ flat_map need_text (map (λ line. line.now) l.lines)
