use Rattle.std.proofs.Common.{arith}
use Rattle.scp_quorum.proofs.quorum.follow_counts.Goals as goal

pub loop-preserved : goal.loop-preserved
loop-preserved c = record {
  within = λ v has. c.loop.invariant.within v (c.follow_one.ensures.within v has);
  kept = λ sets one us closed inside. c.follow_one.ensures.kept sets one us closed (c.loop.invariant.kept sets one us closed inside);
  no_more = omega (arith, c.loop.invariant.no_more, c.follow_one.ensures.no_more);
}

pub returns-in_err-follow_one-clause-kept : goal.returns-in_err-follow_one-clause-kept
returns-in_err-follow_one-clause-kept c sets one us closed inside = c.follow_one.ensures.kept sets one us closed (c.loop.invariant.kept sets one us closed inside)
