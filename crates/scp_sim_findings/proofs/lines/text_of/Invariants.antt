use Rattle.std.proofs.Common.{◌≡◌, ◌++◌, List, ℕ, drop, map}
use Rattle.scp_sim_findings.specs.Shrunk.{text_of}
use Rattle.scp_sim_findings.proofs.lines.text_of.Given as goal

-- with what is left it is all
abbrev pub invariant-loop-line : goal.invariant-loop-line
invariant-loop-line l = l.text.items ++ text_of (map (λ line. line.now) (drop l.line-index l.lines)) ≡ text_of (map (λ line. line.now) l.lines)
