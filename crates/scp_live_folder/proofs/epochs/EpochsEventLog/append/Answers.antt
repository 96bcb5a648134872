use Rattle.std.proofs.Common.{ℕ, List, length, ◌++◌, ap}
use Rattle.std.proofs.lemmas.Result.{on_ok_weaker}
use Rattle.scp_live_log.specs.Disk.{Torn}
use Rattle.scp_live_folder.specs.Folder.{with_now}
use Rattle.scp_live_folder.proofs.Projecting.{follows_now, elapses_now}
use Rattle.scp_live_folder.proofs.epochs.EpochsEventLog.append.Goals as goal

pub returns-clause-added : goal.returns-clause-added
returns-clause-added g c = on_ok_weaker c.append.result (λ added file h. (with_now (h.0.now ++ c.args.bytes.now) h.0, added h.0 h.1, ap (λ (l : List ℕ). l ++ c.args.bytes.now) h.2)) c.append.ensures.added

pub returns-clause-crash : goal.returns-clause-crash
returns-clause-crash g c = follows_now (Torn (length c.args.bytes.now)) (g.D.Folder.may_leave c.args.self.now.folder) (g.D.Folder.may_leave c.append.new.self) c.append.ensures.crash

pub returns-clause-time : goal.returns-clause-time
returns-clause-time g c = elapses_now (g.D.Folder.moment c.args.self.now.folder) (g.D.Folder.moment c.append.new.self) (g.D.Folder.left_since c.args.self.now.folder) (g.D.Folder.left_since c.append.new.self) (g.D.Folder.may_leave c.append.new.self) c.append.ensures.time
