use Rattle.std.proofs.Common.{ℕ, List, refl}
use Rattle.std.proofs.lemmas.Result.{on_ok_weaker}
use Rattle.scp_live_folder.specs.Epochs.{switched}
use Rattle.scp_live_folder.proofs.Projecting.{leaves_now, only_now}
use Rattle.scp_live_folder.proofs.epochs.EpochsEventLog.replace.Goals as goal

pub returns-clause-replaced : goal.returns-clause-replaced
returns-clause-replaced g c = on_ok_weaker c.switch.result (λ done file h. let whole = switched c.args.self.now.epoch c.args.bytes.now h.0 in ((whole, (done h.0 h.1).0, refl), only_now whole c.args.bytes.now (g.D.Folder.may_leave c.switch.new.self.folder) refl (done h.0 h.1).1)) c.switch.ensures.done

pub returns-clause-any_moment : goal.returns-clause-any_moment
returns-clause-any_moment g c file h only = leaves_now g.D.Folder.moment g.D.Folder.left_since g.D.Folder.may_leave c.args.self.now.epoch c.args.bytes.now h.0 file c.args.self.now c.switch.new.self h.2 only (c.switch.ensures.any_outcome h.0 h.1)
