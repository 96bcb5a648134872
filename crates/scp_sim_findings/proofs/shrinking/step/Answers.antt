use Rattle.std.proofs.Common.{List, ℕ, Bor, map}
use Rattle.scp_sim_findings.proofs.Keeping.{whole_smaller}
use Rattle.scp_sim_findings.proofs.shrinking.step.Goals as goal

pub returns-then-count-eq0-clause-part : goal.returns-then-count-eq0-clause-part
returns-then-count-eq0-clause-part c = whole_smaller (map (λ (line : Bor (List ℕ)). line.now) c.args.lines.items)

pub returns-clause-part : goal.returns-clause-part
returns-clause-part c = whole_smaller (map (λ (line : Bor (List ℕ)). line.now) c.args.lines.items)
