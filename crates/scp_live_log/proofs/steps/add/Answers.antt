use Rattle.std.proofs.Common.{length}
use Rattle.scp_live_log.specs.Disk.{StartsWith}
use Rattle.scp_live_log.proofs.Moments.{started, goes_on, torn_starts}
use Rattle.scp_live_log.proofs.steps.add.Goals as goal

pub returns-in_err-append-clause-any_moment : goal.returns-in_err-append-clause-any_moment
returns-in_err-append-clause-any_moment g c front starts =
    let first = torn_starts front (length c.args.bytes.now) _ _ starts c.append.ensures.crash in
    let at_start = started g.L.EventLog.moment g.L.EventLog.left_since c.args.log.now (StartsWith front) (λ f left. starts f (g.met.L.EventLog.only_now c.args.log.now f left)) in
    let behind = goes_on g.L.EventLog.moment g.L.EventLog.left_since c.args.log.now c.args.log.now c.append.new.self (StartsWith front) _ at_start c.append.ensures.time first in
    behind

pub returns-in_err-sync-clause-any_moment : goal.returns-in_err-sync-clause-any_moment
returns-in_err-sync-clause-any_moment g c front starts =
    let first = torn_starts front (length c.args.bytes.now) _ _ starts c.append.ensures.crash in
    let at_start = started g.L.EventLog.moment g.L.EventLog.left_since c.args.log.now (StartsWith front) (λ f left. starts f (g.met.L.EventLog.only_now c.args.log.now f left)) in
    let behind = goes_on g.L.EventLog.moment g.L.EventLog.left_since c.args.log.now c.args.log.now c.append.new.self (StartsWith front) _ at_start c.append.ensures.time first in
    goes_on g.L.EventLog.moment g.L.EventLog.left_since c.args.log.now c.append.new.self c.sync.new.self (StartsWith front) _ behind c.sync.ensures.time (λ f now. first f (c.sync.ensures.crash f now))

pub returns-clause-any_moment : goal.returns-clause-any_moment
returns-clause-any_moment g c front starts =
    let first = torn_starts front (length c.args.bytes.now) _ _ starts c.append.ensures.crash in
    let at_start = started g.L.EventLog.moment g.L.EventLog.left_since c.args.log.now (StartsWith front) (λ f left. starts f (g.met.L.EventLog.only_now c.args.log.now f left)) in
    let behind = goes_on g.L.EventLog.moment g.L.EventLog.left_since c.args.log.now c.args.log.now c.append.new.self (StartsWith front) _ at_start c.append.ensures.time first in
    goes_on g.L.EventLog.moment g.L.EventLog.left_since c.args.log.now c.append.new.self c.sync.new.self (StartsWith front) _ behind c.sync.ensures.time (λ f now. first f (c.sync.ensures.crash f now))
