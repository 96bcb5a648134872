use Rattle.scp_live_folder.specs.inside.Halves.{prepared}
use Rattle.scp_live_folder.proofs.Switching.{first_half, both_halves, of_one}
use Rattle.scp_live_folder.proofs.epochs.Epochs.switch.Goals as goal

pub returns-in_err-prepare-clause-any_outcome : goal.returns-in_err-prepare-clause-any_outcome
returns-in_err-prepare-clause-any_outcome g c v there =
    first_half g.D.Folder.moment g.D.Folder.left_since g.D.Folder.may_leave c.args.self.now.epoch c.args.bytes.now v c.args.self.now.folder c.prepare.new.folder c.prepare.new.folder c.prepare.ensures.any_moment

pub returns-in_err-prepare-clause-any_moment : goal.returns-in_err-prepare-clause-any_moment
returns-in_err-prepare-clause-any_moment g c v there only =
    of_one g.D.Folder.moment g.D.Folder.left_since g.D.Folder.may_leave c.args.self.now.epoch c.args.bytes.now v c.args.self.now.folder c.prepare.new.folder c.prepare.new.folder only
    (first_half g.D.Folder.moment g.D.Folder.left_since g.D.Folder.may_leave c.args.self.now.epoch c.args.bytes.now v c.args.self.now.folder c.prepare.new.folder c.prepare.new.folder c.prepare.ensures.any_moment)

pub returns-in_err-turn-clause-any_outcome : goal.returns-in_err-turn-clause-any_outcome
returns-in_err-turn-clause-any_outcome g c v there =
    both_halves g.D.Folder.moment g.D.Folder.left_since g.D.Folder.may_leave c.args.self.now.epoch c.args.bytes.now v c.args.self.now.folder c.prepare.new.folder c.turn.new.folder c.prepare.ensures.any_moment (c.in_ok-prepare.ensures.done v there).1 c.turn.ensures.any_moment

pub returns-in_err-turn-clause-any_moment : goal.returns-in_err-turn-clause-any_moment
returns-in_err-turn-clause-any_moment g c v there only =
    of_one g.D.Folder.moment g.D.Folder.left_since g.D.Folder.may_leave c.args.self.now.epoch c.args.bytes.now v c.args.self.now.folder c.prepare.new.folder c.turn.new.folder only
    (both_halves g.D.Folder.moment g.D.Folder.left_since g.D.Folder.may_leave c.args.self.now.epoch c.args.bytes.now v c.args.self.now.folder c.prepare.new.folder c.turn.new.folder c.prepare.ensures.any_moment (c.in_ok-prepare.ensures.done v there).1 c.turn.ensures.any_moment)

pub returns-clause-any_outcome : goal.returns-clause-any_outcome
returns-clause-any_outcome g c v there =
    both_halves g.D.Folder.moment g.D.Folder.left_since g.D.Folder.may_leave c.args.self.now.epoch c.args.bytes.now v c.args.self.now.folder c.prepare.new.folder c.turn.new.folder c.prepare.ensures.any_moment (c.in_ok-prepare.ensures.done v there).1 c.turn.ensures.any_moment

pub returns-clause-any_moment : goal.returns-clause-any_moment
returns-clause-any_moment g c v there only =
    of_one g.D.Folder.moment g.D.Folder.left_since g.D.Folder.may_leave c.args.self.now.epoch c.args.bytes.now v c.args.self.now.folder c.prepare.new.folder c.turn.new.folder only
    (both_halves g.D.Folder.moment g.D.Folder.left_since g.D.Folder.may_leave c.args.self.now.epoch c.args.bytes.now v c.args.self.now.folder c.prepare.new.folder c.turn.new.folder c.prepare.ensures.any_moment (c.in_ok-prepare.ensures.done v there).1 c.turn.ensures.any_moment)

pub returns-clause-done : goal.returns-clause-done
returns-clause-done g c v there = c.in_ok-turn.ensures.done (prepared c.args.self.now.epoch c.args.bytes.now v) (c.in_ok-prepare.ensures.done v there).0
