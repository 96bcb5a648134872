use Rattle.std.proofs.Common.{inl, refl}
use Rattle.scp_live_log.proofs.Moments.{started, goes_on}
use Rattle.scp_live_folder.specs.Folder.{MayBe, renamed}
use Rattle.scp_live_folder.proofs.Outcomes.{From}
use Rattle.scp_live_folder.proofs.steps.turn.Goals as goal

pub returns-in_err-rename-clause-any_moment : goal.returns-in_err-rename-clause-any_moment
returns-in_err-rename-clause-any_moment g c =
    let P = From (g.D.Folder.may_leave c.args.folder.now) (MayBe renamed) in
    let at_start = started g.D.Folder.moment g.D.Folder.left_since c.args.folder.now P (λ f left. (f, g.met.D.Folder.only_now c.args.folder.now f left, inl refl)) in
    goes_on g.D.Folder.moment g.D.Folder.left_since c.args.folder.now c.args.folder.now c.rename.new.self P _ at_start c.rename.ensures.time c.rename.ensures.crash

pub returns-in_err-sync-clause-any_moment : goal.returns-in_err-sync-clause-any_moment
returns-in_err-sync-clause-any_moment g c =
    let P = From (g.D.Folder.may_leave c.args.folder.now) (MayBe renamed) in
    let at_start = started g.D.Folder.moment g.D.Folder.left_since c.args.folder.now P (λ f left. (f, g.met.D.Folder.only_now c.args.folder.now f left, inl refl)) in
    let behind = goes_on g.D.Folder.moment g.D.Folder.left_since c.args.folder.now c.args.folder.now c.rename.new.self P _ at_start c.rename.ensures.time c.rename.ensures.crash in
    goes_on g.D.Folder.moment g.D.Folder.left_since c.args.folder.now c.rename.new.self c.sync.new.self P _ behind c.sync.ensures.time (λ f now. c.rename.ensures.crash f (c.sync.ensures.crash f now))

pub returns-clause-any_moment : goal.returns-clause-any_moment
returns-clause-any_moment g c =
    let P = From (g.D.Folder.may_leave c.args.folder.now) (MayBe renamed) in
    let at_start = started g.D.Folder.moment g.D.Folder.left_since c.args.folder.now P (λ f left. (f, g.met.D.Folder.only_now c.args.folder.now f left, inl refl)) in
    let behind = goes_on g.D.Folder.moment g.D.Folder.left_since c.args.folder.now c.args.folder.now c.rename.new.self P _ at_start c.rename.ensures.time c.rename.ensures.crash in
    goes_on g.D.Folder.moment g.D.Folder.left_since c.args.folder.now c.rename.new.self c.sync.new.self P _ behind c.sync.ensures.time (λ f now. c.rename.ensures.crash f (c.sync.ensures.crash f now))
