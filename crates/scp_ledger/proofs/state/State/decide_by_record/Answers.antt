use Rattle.std.proofs.Common.{◌++◌, ◌∷◌, [], ◌∙◌, ap}
use Rattle.scp_ledger.specs.declared.journal.Decision.{Decision}
use Rattle.scp_ledger.proofs.Stated.{sound_named}
use Rattle.scp_ledger.proofs.state.State.decide_by_record.Goals as goal

pub returns-clause-sound : goal.returns-clause-sound
returns-clause-sound g c =
    let mid = c.give_up.new.self in
    sound_named g.D.Driver.says.level g.D.Driver.says.extracted g.D.Driver.says.combined g.D.Driver.says.place c.args.self.now mid c.conclude.new.self c.args.conn c.args.seq c.args.slot c.args.value c.args.set c.requires.sound c.requires.is_open c.requires.asked c.requires.room c.requires.its_set c.give_up.ensures.machines c.give_up.ensures.same
    c.in_ok-onward.ensures.journal
    (c.in_ok-onward.ensures.decisions ∙ ap (λ (d : Decision). mid.decisions.items ++ d ∷ []) c.in_ok-decision.ensures.same)
    c.in_ok-onward.ensures.window c.conclude.ensures.rest
