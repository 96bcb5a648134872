use Rattle.std.proofs.Common.{List, ℕ, Bor, map}
use Rattle.scp_sim_findings.proofs.Keeping.{whole_smaller, smaller_of_smaller}
use Rattle.scp_sim_findings.proofs.shrinking.passes.Goals as goal

pub loop-init : goal.loop-init
loop-init c = record { part = whole_smaller (map (λ (line : Bor (List ℕ)). line.now) c.args.lines.items); reaches = c.requires.reaches }

pub loop-preserved : goal.loop-preserved
loop-preserved c = record {
  part = smaller_of_smaller (map (λ (line : Bor (List ℕ)). line.now) c.in_ok-left.left.items) (map (λ (line : Bor (List ℕ)). line.now) c.loop.left.items) (map (λ (line : Bor (List ℕ)). line.now) c.args.lines.items) c.in_ok-left.ensures.part c.loop.invariant.part;
  reaches = c.in_ok-left.ensures.reaches;
}

pub loop-2-preserved : goal.loop-2-preserved
loop-2-preserved c = record {
  part = smaller_of_smaller (map (λ (line : Bor (List ℕ)). line.now) c.in_ok-left-2.left.items) (map (λ (line : Bor (List ℕ)). line.now) c.loop-2.left.items) (map (λ (line : Bor (List ℕ)). line.now) c.args.lines.items) c.in_ok-left-2.ensures.part c.loop-2.invariant.part;
  reaches = c.in_ok-left-2.ensures.reaches;
}
