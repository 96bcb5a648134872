use Rattle.std.proofs.Common.{◌≡◌}
use Rattle.scp_test_threads.proofs.desk.ask_all.Given as goal

abbrev pub invariant-loop-byte : goal.invariant-loop-byte
invariant-loop-byte g l = (l.putter.desk ≡ l.fn.putter.desk) × (l.putter.number ≡ l.fn.putter.number)
