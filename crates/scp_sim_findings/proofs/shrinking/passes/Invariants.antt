use Rattle.std.proofs.Common.{map}
use Rattle.scp_sim_findings.specs.inside.Reaching.{Reaches}
use Rattle.scp_sim_findings.specs.Shrunk.{IsSmaller, text_of}
use Rattle.scp_sim_findings.proofs.shrinking.passes.Given as goal

-- what is left is a part, and comes to the same
abbrev pub invariant-loop : goal.invariant-loop
invariant-loop l = record {
  part : IsSmaller (map (λ line. line.now) l.left.items) (map (λ line. line.now) l.fn.lines.items);
  reaches : Reaches l.aim (text_of (map (λ line. line.now) l.left.items));
}

-- the same
abbrev pub invariant-loop-2 : goal.invariant-loop-2
invariant-loop-2 l = record {
  part : IsSmaller (map (λ line. line.now) l.left.items) (map (λ line. line.now) l.fn.lines.items);
  reaches : Reaches l.aim (text_of (map (λ line. line.now) l.left.items));
}
