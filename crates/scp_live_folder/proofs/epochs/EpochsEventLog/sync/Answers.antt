use Rattle.std.proofs.Common.{ℕ, List}
use Rattle.std.proofs.lemmas.Result.{on_ok_weaker}
use Rattle.scp_live_folder.proofs.Projecting.{fewer_now, only_now, elapses_now}
use Rattle.scp_live_folder.proofs.epochs.EpochsEventLog.sync.Goals as goal

pub returns-clause-durable : goal.returns-clause-durable
returns-clause-durable g c = on_ok_weaker c.sync.result (λ durable file h. only_now h.0 file (g.D.Folder.may_leave c.sync.new.self) h.2 (durable h.0 h.1)) c.sync.ensures.durable

pub returns-clause-stays : goal.returns-clause-stays
returns-clause-stays g c file h = (h.0, c.sync.ensures.stays h.0 h.1, h.2)

pub returns-clause-crash : goal.returns-clause-crash
returns-clause-crash g c = fewer_now (g.D.Folder.may_leave c.args.self.now.folder) (g.D.Folder.may_leave c.sync.new.self) c.sync.ensures.crash

pub returns-clause-time : goal.returns-clause-time
returns-clause-time g c = elapses_now (g.D.Folder.moment c.args.self.now.folder) (g.D.Folder.moment c.sync.new.self) (g.D.Folder.left_since c.args.self.now.folder) (g.D.Folder.left_since c.sync.new.self) (g.D.Folder.may_leave c.sync.new.self) c.sync.ensures.time
