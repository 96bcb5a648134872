use Rattle.std.proofs.Common.{◌≡◌, ◌++◌, drop, filter}
use Rattle.scp_sim_findings.specs.Shrunk.{is_kept}
use Rattle.scp_sim_findings.proofs.shrinking.add_kept.Given as goal

-- with what is left it is all
abbrev pub invariant-loop-line : goal.invariant-loop-line
invariant-loop-line l =
    l.some.items ++ filter (λ line. is_kept line.now) (drop l.line-index l.lines) ≡ l.fn.some.items ++ filter (λ line. is_kept line.now) l.lines
