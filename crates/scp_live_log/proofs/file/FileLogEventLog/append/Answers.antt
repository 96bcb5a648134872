use Rattle.std.proofs.Common.{ℕ, subst}
use Rattle.scp_live_log.specs.Disk.{HasCause}
use Rattle.scp_live_log.proofs.file.FileLogEventLog.append.Goals as goal

pub returns-clause-cause : goal.returns-clause-cause
returns-clause-cause g c = subst (λ (n : ℕ). HasCause n c.done.new.self.failures c.done.result) c.add-came.ensures c.done.ensures
