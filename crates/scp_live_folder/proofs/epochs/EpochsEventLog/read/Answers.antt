use Rattle.std.proofs.Common.{sym, ◌∙◌, Vec, ℕ, List}
use Rattle.std.proofs.lemmas.Result.{IfOk-weaker}
use Rattle.scp_live_folder.proofs.Projecting.{fewer_now, elapses_now}
use Rattle.scp_live_folder.proofs.epochs.EpochsEventLog.read.Goals as goal

pub returns-clause-bytes : goal.returns-clause-bytes
returns-clause-bytes g c = IfOk-weaker c.read.result _ _ (λ bytes is file h. is h.0 h.1 ∙ h.2) c.read.ensures.bytes

pub returns-clause-stays : goal.returns-clause-stays
returns-clause-stays g c file h = (h.0, c.read.ensures.stays h.0 h.1, h.2)

pub returns-clause-crash : goal.returns-clause-crash
returns-clause-crash g c = fewer_now (g.D.Folder.may_leave c.args.self.now.folder) (g.D.Folder.may_leave c.read.new.self) c.read.ensures.crash

pub returns-clause-time : goal.returns-clause-time
returns-clause-time g c = elapses_now (g.D.Folder.moment c.args.self.now.folder) (g.D.Folder.moment c.read.new.self) (g.D.Folder.left_since c.args.self.now.folder) (g.D.Folder.left_since c.read.new.self) (g.D.Folder.may_leave c.read.new.self) c.read.ensures.time
