use Rattle.scp_live_log.proofs.Moments.{started, goes_on}
use Rattle.scp_live_folder.specs.Epochs.{IsStill}
use Rattle.scp_live_folder.proofs.Outcomes.{From, still, written_from, linked_from}
use Rattle.scp_live_folder.proofs.steps.prepare.Goals as goal

pub returns-in_err-write_next-clause-any_moment : goal.returns-in_err-write_next-clause-any_moment
returns-in_err-write_next-clause-any_moment g c =
    let P = From (g.D.Folder.may_leave c.args.folder.now) (IsStill c.args.epoch) in
    let at_start = started g.D.Folder.moment g.D.Folder.left_since c.args.folder.now P (λ f left. (f, g.met.D.Folder.only_now c.args.folder.now f left, still c.args.epoch f)) in
    let first = written_from c.args.epoch _ _ c.write_next.ensures.crash in
    goes_on g.D.Folder.moment g.D.Folder.left_since c.args.folder.now c.args.folder.now c.write_next.new.self P _ at_start c.write_next.ensures.time first

pub returns-in_err-link-clause-any_moment : goal.returns-in_err-link-clause-any_moment
returns-in_err-link-clause-any_moment g c =
    let P = From (g.D.Folder.may_leave c.args.folder.now) (IsStill c.args.epoch) in
    let at_start = started g.D.Folder.moment g.D.Folder.left_since c.args.folder.now P (λ f left. (f, g.met.D.Folder.only_now c.args.folder.now f left, still c.args.epoch f)) in
    let first = written_from c.args.epoch _ _ c.write_next.ensures.crash in
    let behind_first = goes_on g.D.Folder.moment g.D.Folder.left_since c.args.folder.now c.args.folder.now c.write_next.new.self P _ at_start c.write_next.ensures.time first in
    let second = linked_from c.args.epoch _ _ _ c.write_next.ensures.crash c.link.ensures.crash in
    goes_on g.D.Folder.moment g.D.Folder.left_since c.args.folder.now c.write_next.new.self c.link.new.self P _ behind_first c.link.ensures.time second

pub returns-in_err-sync-clause-any_moment : goal.returns-in_err-sync-clause-any_moment
returns-in_err-sync-clause-any_moment g c =
    let P = From (g.D.Folder.may_leave c.args.folder.now) (IsStill c.args.epoch) in
    let at_start = started g.D.Folder.moment g.D.Folder.left_since c.args.folder.now P (λ f left. (f, g.met.D.Folder.only_now c.args.folder.now f left, still c.args.epoch f)) in
    let first = written_from c.args.epoch _ _ c.write_next.ensures.crash in
    let behind_first = goes_on g.D.Folder.moment g.D.Folder.left_since c.args.folder.now c.args.folder.now c.write_next.new.self P _ at_start c.write_next.ensures.time first in
    let second = linked_from c.args.epoch _ _ _ c.write_next.ensures.crash c.link.ensures.crash in
    let behind_second = goes_on g.D.Folder.moment g.D.Folder.left_since c.args.folder.now c.write_next.new.self c.link.new.self P _ behind_first c.link.ensures.time second in
    goes_on g.D.Folder.moment g.D.Folder.left_since c.args.folder.now c.link.new.self c.sync.new.self P _ behind_second c.sync.ensures.time (λ f now. second f (c.sync.ensures.crash f now))

pub returns-clause-any_moment : goal.returns-clause-any_moment
returns-clause-any_moment g c =
    let P = From (g.D.Folder.may_leave c.args.folder.now) (IsStill c.args.epoch) in
    let at_start = started g.D.Folder.moment g.D.Folder.left_since c.args.folder.now P (λ f left. (f, g.met.D.Folder.only_now c.args.folder.now f left, still c.args.epoch f)) in
    let first = written_from c.args.epoch _ _ c.write_next.ensures.crash in
    let behind_first = goes_on g.D.Folder.moment g.D.Folder.left_since c.args.folder.now c.args.folder.now c.write_next.new.self P _ at_start c.write_next.ensures.time first in
    let second = linked_from c.args.epoch _ _ _ c.write_next.ensures.crash c.link.ensures.crash in
    let behind_second = goes_on g.D.Folder.moment g.D.Folder.left_since c.args.folder.now c.write_next.new.self c.link.new.self P _ behind_first c.link.ensures.time second in
    goes_on g.D.Folder.moment g.D.Folder.left_since c.args.folder.now c.link.new.self c.sync.new.self P _ behind_second c.sync.ensures.time (λ f now. second f (c.sync.ensures.crash f now))
