use Rattle.std.proofs.Common.{IfOk, OnOk, sym, subst, false}
use Rattle.scp_nominate.specs.Nomination as nominate
use Rattle.scp_slot.specs.Slot.{view_of}
use Rattle.scp_slot.specs.Takes.{TakesInput, NominatesBy}
use Rattle.scp_slot.proofs.state.State.enter_undecided.Goals as goal

pub returns-in-Timer-clause-takes : goal.returns-in-Timer-clause-takes
returns-in-Timer-clause-takes g c =
    subst (λ input. IfOk c.timer.result (λ out. TakesInput (g.D.Driver.says.level (nominate.driver_of c.args.self.now.nominator) c.args.self.now.slot.0) (g.D.Driver.says.combined (nominate.driver_of c.args.self.now.nominator) (nominate.nomination c.args.self.now.nominator).slot) input (view_of c.args.self.now false) out (view_of c.timer.new.self false))) (sym c.in-Timer.is) c.timer.ensures.takes

pub returns-in-Timer-clause-nominates : goal.returns-in-Timer-clause-nominates
returns-in-Timer-clause-nominates g c =
    subst (λ input. OnOk c.timer.result (NominatesBy g.D.Driver.says.level g.D.Driver.says.extracted g.D.Driver.says.place (nominate.nomination c.args.self.now.nominator) input c.timer.new.self.nominator)) (sym c.in-Timer.is) c.timer.ensures.nominates
