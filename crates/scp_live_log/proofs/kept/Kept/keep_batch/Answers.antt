use Rattle.std.proofs.Common.{ℕ, List, ◌++◌, subst}
use Rattle.scp_live_log.specs.declared.kept.Kept.{Kept}
use Rattle.scp_live_log.specs.Disk.{Only, StartsWith}
use Rattle.scp_live_log.specs.Log.{log_of}
use Rattle.scp_live_log.proofs.Moments.{started}
use Rattle.std.proofs.lemmas.List.Elements.{recursion_from_All}
use Rattle.scp_live_log.proofs.Keeping.{settled_starts, settled_more}
use Rattle.scp_live_log.proofs.kept.Kept.keep_batch.Goals as goal

pub returns-in_err-bytes-clause-any_moment : goal.returns-in_err-bytes-clause-any_moment
returns-in_err-bytes-clause-any_moment g c header ms s =
    started g.L.EventLog.moment g.L.EventLog.left_since c.args.self.now.log (StartsWith (log_of header ms))
    (λ f left. settled_starts g.L.EventLog.holds g.L.EventLog.may_leave header ms c.args.self.now s f (g.met.L.EventLog.only_now c.args.self.now.log f left))

pub returns-in_err-add-clause-any_moment : goal.returns-in_err-add-clause-any_moment
returns-in_err-add-clause-any_moment g c header ms s =
    c.add.ensures.any_moment (log_of header ms) (settled_starts g.L.EventLog.holds g.L.EventLog.may_leave header ms c.args.self.now s)

pub returns-clause-any_moment : goal.returns-clause-any_moment
returns-clause-any_moment g c header ms s =
    c.add.ensures.any_moment (log_of header ms) (settled_starts g.L.EventLog.holds g.L.EventLog.may_leave header ms c.args.self.now s)

pub returns-clause-kept : goal.returns-clause-kept
returns-clause-kept g c header ms s =
    let new : Kept g.row.L.Denot = record { log = c.add.new.log; last = c.in_ok-bytes.last } in
    settled_more g.L.EventLog.holds g.L.EventLog.may_leave header ms c.args.entries.now c.in_ok-bytes.bytes.items c.args.self.now new (recursion_from_All _ _ c.requires.entries) s c.in_ok-bytes.ensures.bytes c.in_ok-bytes.ensures.digest
    (λ f h. subst (λ (b : List ℕ). g.L.EventLog.holds c.add.new.log (f ++ b) × Only (f ++ b) (g.L.EventLog.may_leave c.add.new.log)) c.deref.ensures.value (c.in_ok-add.ensures.added f h))
