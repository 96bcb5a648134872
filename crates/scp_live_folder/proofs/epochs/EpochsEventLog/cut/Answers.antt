use Rattle.std.proofs.Common.{ℕ, List, take, ap}
use Rattle.std.proofs.lemmas.Result.{on_ok_weaker}
use Rattle.scp_live_log.specs.Disk.{Cut}
use Rattle.scp_live_folder.specs.Folder.{with_now}
use Rattle.scp_live_folder.proofs.Projecting.{follows_now, elapses_now}
use Rattle.scp_live_folder.proofs.epochs.EpochsEventLog.cut.Goals as goal

pub returns-clause-cut : goal.returns-clause-cut
returns-clause-cut g c = on_ok_weaker c.cut.result (λ cut file h. (with_now (take c.args.length h.0.now) h.0, cut h.0 h.1, ap (take c.args.length) h.2)) c.cut.ensures.cut

pub returns-clause-crash : goal.returns-clause-crash
returns-clause-crash g c = follows_now (Cut c.args.length) (g.D.Folder.may_leave c.args.self.now.folder) (g.D.Folder.may_leave c.cut.new.self) c.cut.ensures.crash

pub returns-clause-time : goal.returns-clause-time
returns-clause-time g c = elapses_now (g.D.Folder.moment c.args.self.now.folder) (g.D.Folder.moment c.cut.new.self) (g.D.Folder.left_since c.args.self.now.folder) (g.D.Folder.left_since c.cut.new.self) (g.D.Folder.may_leave c.cut.new.self) c.cut.ensures.time
