use Rattle.std.proofs.Common.{ℕ, List, ◌++◌, ◌∙◌, subst}
use Rattle.scp_live_log.specs.Disk.{Only}
use Rattle.scp_live_head.proofs.applied.Applied.add.Goals as goal

pub returns-clause-added : goal.returns-clause-added
returns-clause-added g c file h =
    subst (λ (b : List ℕ). g.L.EventLog.holds c.add.new.log (file ++ b) × Only (file ++ b) (g.L.EventLog.may_leave c.add.new.log)) (c.deref.ensures.value ∙ c.in_ok-lines.ensures) (c.in_ok-add.ensures.added file h)
