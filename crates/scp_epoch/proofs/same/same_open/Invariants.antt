use Rattle.std.proofs.Common.{◌+◌}
use Rattle.scp_epoch.specs.Saying.{SaySame}
use Rattle.scp_epoch.proofs.same.same_open.Given as goal

-- of the slots so far both say the same
abbrev pub invariant-loop-ahead : goal.invariant-loop-ahead
invariant-loop-ahead g l = SaySame l.ahead (l.before + 1) l.old.ledger l.new.ledger
