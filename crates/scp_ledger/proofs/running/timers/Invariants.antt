use Rattle.scp_ledger.specs.Timers.{AreTimers}
use Rattle.scp_ledger.proofs.running.timers.Given as goal

abbrev pub invariant-loop-ahead : goal.invariant-loop-ahead
invariant-loop-ahead g l = AreTimers l.ledger.machines l.ledger.lowest l.ahead l.timers.items
