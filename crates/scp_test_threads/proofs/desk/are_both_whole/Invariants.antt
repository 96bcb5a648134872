use Rattle.std.proofs.Common.{◌≡◌}
use Rattle.scp_test_threads.proofs.desk.are_both_whole.Given as goal

abbrev pub invariant-loop : goal.invariant-loop
invariant-loop g l = (l.taker.desk ≡ l.fn.taker.desk) × (l.taker.producers ≡ l.fn.taker.producers)
