use Rattle.scp_live_log.proofs.Moments.{started, goes_on}
use Rattle.scp_live_folder.specs.Epochs.{HasSameLogs}
use Rattle.scp_live_folder.proofs.Outcomes.{From, same_logs, removed_from, unlinked_from}
use Rattle.scp_live_folder.proofs.steps.settle.Goals as goal

pub returns-in_err-remove_next-clause-any_moment : goal.returns-in_err-remove_next-clause-any_moment
returns-in_err-remove_next-clause-any_moment g c =
    let P = From (g.D.Folder.may_leave c.args.folder.now) HasSameLogs in
    let at_start = started g.D.Folder.moment g.D.Folder.left_since c.args.folder.now P (λ f left. (f, g.met.D.Folder.only_now c.args.folder.now f left, same_logs f)) in
    let first = removed_from _ _ c.remove_next.ensures.crash in
    goes_on g.D.Folder.moment g.D.Folder.left_since c.args.folder.now c.args.folder.now c.remove_next.new.self P _ at_start c.remove_next.ensures.time first

pub returns-in_err-unlink-clause-any_moment : goal.returns-in_err-unlink-clause-any_moment
returns-in_err-unlink-clause-any_moment g c =
    let P = From (g.D.Folder.may_leave c.args.folder.now) HasSameLogs in
    let at_start = started g.D.Folder.moment g.D.Folder.left_since c.args.folder.now P (λ f left. (f, g.met.D.Folder.only_now c.args.folder.now f left, same_logs f)) in
    let first = removed_from _ _ c.remove_next.ensures.crash in
    let behind_first = goes_on g.D.Folder.moment g.D.Folder.left_since c.args.folder.now c.args.folder.now c.remove_next.new.self P _ at_start c.remove_next.ensures.time first in
    let second = unlinked_from c.args.epoch _ _ _ c.remove_next.ensures.crash c.unlink.ensures.crash in
    goes_on g.D.Folder.moment g.D.Folder.left_since c.args.folder.now c.remove_next.new.self c.unlink.new.self P _ behind_first c.unlink.ensures.time second

pub returns-in_err-sync-clause-any_moment : goal.returns-in_err-sync-clause-any_moment
returns-in_err-sync-clause-any_moment g c =
    let P = From (g.D.Folder.may_leave c.args.folder.now) HasSameLogs in
    let at_start = started g.D.Folder.moment g.D.Folder.left_since c.args.folder.now P (λ f left. (f, g.met.D.Folder.only_now c.args.folder.now f left, same_logs f)) in
    let first = removed_from _ _ c.remove_next.ensures.crash in
    let behind_first = goes_on g.D.Folder.moment g.D.Folder.left_since c.args.folder.now c.args.folder.now c.remove_next.new.self P _ at_start c.remove_next.ensures.time first in
    let second = unlinked_from c.args.epoch _ _ _ c.remove_next.ensures.crash c.unlink.ensures.crash in
    let behind_second = goes_on g.D.Folder.moment g.D.Folder.left_since c.args.folder.now c.remove_next.new.self c.unlink.new.self P _ behind_first c.unlink.ensures.time second in
    goes_on g.D.Folder.moment g.D.Folder.left_since c.args.folder.now c.unlink.new.self c.sync.new.self P _ behind_second c.sync.ensures.time (λ f now. second f (c.sync.ensures.crash f now))

pub returns-clause-any_moment : goal.returns-clause-any_moment
returns-clause-any_moment g c =
    let P = From (g.D.Folder.may_leave c.args.folder.now) HasSameLogs in
    let at_start = started g.D.Folder.moment g.D.Folder.left_since c.args.folder.now P (λ f left. (f, g.met.D.Folder.only_now c.args.folder.now f left, same_logs f)) in
    let first = removed_from _ _ c.remove_next.ensures.crash in
    let behind_first = goes_on g.D.Folder.moment g.D.Folder.left_since c.args.folder.now c.args.folder.now c.remove_next.new.self P _ at_start c.remove_next.ensures.time first in
    let second = unlinked_from c.args.epoch _ _ _ c.remove_next.ensures.crash c.unlink.ensures.crash in
    let behind_second = goes_on g.D.Folder.moment g.D.Folder.left_since c.args.folder.now c.remove_next.new.self c.unlink.new.self P _ behind_first c.unlink.ensures.time second in
    goes_on g.D.Folder.moment g.D.Folder.left_since c.args.folder.now c.unlink.new.self c.sync.new.self P _ behind_second c.sync.ensures.time (λ f now. second f (c.sync.ensures.crash f now))
