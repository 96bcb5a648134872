use Rattle.std.proofs.Common.{ℕ, List, subst, inl, ◌∙◌}
use Rattle.scp_live_log.specs.declared.kept.Kept.{Kept}
use Rattle.scp_live_log.specs.Disk.{Only, LeavesOnly, IsEither}
use Rattle.scp_live_log.specs.Log.{log_of, batch_of}
use Rattle.scp_live_log.proofs.Moments.{started}
use Rattle.std.proofs.lemmas.List.Elements.{recursion_from_All}
use Rattle.scp_live_log.proofs.Keeping.{settled_anew}
use Rattle.scp_live_log.proofs.kept.Kept.switch.Goals as goal

pub returns-in_err-bytes-clause-any_moment : goal.returns-in_err-bytes-clause-any_moment
returns-in_err-bytes-clause-any_moment g c old ms s =
    started g.L.EventLog.moment g.L.EventLog.left_since c.args.self.now.log (IsEither (log_of old ms) (log_of c.args.header.now (batch_of c.args.entries.now)))
    (λ f left. inl (s.durable f (g.met.L.EventLog.only_now c.args.self.now.log f left)))

pub returns-in_err-replace-clause-any_moment : goal.returns-in_err-replace-clause-any_moment
returns-in_err-replace-clause-any_moment g c old ms s =
    subst (λ (b : List ℕ). LeavesOnly g.L.EventLog.moment g.L.EventLog.left_since c.args.self.now.log c.replace.new.self (IsEither (log_of old ms) b)) (c.deref.ensures.value ∙ c.in_ok-bytes.ensures.bytes)
    (c.replace.ensures.any_moment (log_of old ms) s.file s.durable)

pub returns-clause-any_moment : goal.returns-clause-any_moment
returns-clause-any_moment g c old ms s =
    subst (λ (b : List ℕ). LeavesOnly g.L.EventLog.moment g.L.EventLog.left_since c.args.self.now.log c.replace.new.self (IsEither (log_of old ms) b)) (c.deref.ensures.value ∙ c.in_ok-bytes.ensures.bytes)
    (c.replace.ensures.any_moment (log_of old ms) s.file s.durable)

pub returns-clause-switched : goal.returns-clause-switched
returns-clause-switched g c f h =
    let new : Kept g.row.L.Denot = record { log = c.replace.new.self; last = c.in_ok-bytes.digest } in
    let put = subst (λ (b : List ℕ). g.L.EventLog.holds c.replace.new.self b × Only b (g.L.EventLog.may_leave c.replace.new.self)) (c.deref.ensures.value ∙ c.in_ok-bytes.ensures.bytes) (c.in_ok-replace.ensures.replaced f h) in
    settled_anew g.L.EventLog.holds g.L.EventLog.may_leave c.args.header.now c.args.entries.now new (recursion_from_All _ _ c.requires.entries) c.in_ok-bytes.ensures.digest put.0 put.1
