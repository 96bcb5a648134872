use Rattle.std.proofs.Common.{◌≡◌, Bool, false, sym, subst, rules}
use Rattle.scp_nominate.specs.Nomination as nominate
use Rattle.scp_slot.specs.Slot.{view_of, slot_view, driver_of}
use Rattle.scp_slot.specs.Takes.{Takes}
use Rattle.scp_slot.proofs.Taking.{decides_taken}
use Rattle.scp_slot.proofs.Limiting.{short_taken, given_by}
use Rattle.scp_slot.proofs.machine.SlotMachine.input.Goals as goal

pub returns-clause-takes : goal.returns-clause-takes
returns-clause-takes g c =
    let whole : c.args.self.now.failed ≡ false = search rules in
    subst (λ (b : Bool). Takes (g.D.Driver.says.level (nominate.driver_of c.args.self.now.state.value.nominator) c.args.self.now.state.value.slot.0) (g.D.Driver.says.combined (nominate.driver_of c.args.self.now.state.value.nominator) (nominate.nomination c.args.self.now.state.value.nominator).slot) c.args.input (view_of c.args.self.now.state.value b) c.in_ok-out.out (view_of c.enter.new.self false)) (sym whole) (rw c.deref_mut.ensures.value at c.in_ok-out.ensures.takes)

pub returns-clause-decides : goal.returns-clause-decides
returns-clause-decides g c = decides_taken _ _ c.args.input _ _ _ (returns-clause-takes g c)

pub returns-clause-votes : goal.returns-clause-votes
returns-clause-votes g c = rw c.deref_mut.ensures.value at c.in_ok-out.ensures.votes

pub returns-clause-nominates : goal.returns-clause-nominates
returns-clause-nominates g c = rw c.deref_mut.ensures.value at c.in_ok-out.ensures.nominates

pub returns-clause-fits : goal.returns-clause-fits
returns-clause-fits g c =
    let whole : c.args.self.now.failed ≡ false = search rules in
    let all = short_taken _ _ c.args.input (slot_view c.args.self.now) c.in_ok-out.out (view_of c.enter.new.self false)
    (given_by g.D.Driver.says.level g.D.Driver.says.extracted g.D.Driver.says.combined g.D.Driver.says.place g.met.D.Driver.valid_is_short g.met.D.Driver.extracts_full g.met.D.Driver.combines_full (driver_of c.args.self.now) (slot_view c.args.self.now).slot (slot_view c.args.self.now).nomination c.enter.new.self.nominator
    (rw c.deref_mut.ensures.value at c.in_ok-out.ensures.driver) c.in_ok-out.ensures.working.nominator c.in_ok-out.ensures.working.running.nominating (returns-clause-votes g c))
    (c.requires.sound whole).1 (returns-clause-takes g c) in
    all.1

pub returns-clause-sound : goal.returns-clause-sound
returns-clause-sound g c e =
    let whole : c.args.self.now.failed ≡ false = search rules in
    let all = short_taken _ _ c.args.input (slot_view c.args.self.now) c.in_ok-out.out (view_of c.enter.new.self false)
    (given_by g.D.Driver.says.level g.D.Driver.says.extracted g.D.Driver.says.combined g.D.Driver.says.place g.met.D.Driver.valid_is_short g.met.D.Driver.extracts_full g.met.D.Driver.combines_full (driver_of c.args.self.now) (slot_view c.args.self.now).slot (slot_view c.args.self.now).nomination c.enter.new.self.nominator
    (rw c.deref_mut.ensures.value at c.in_ok-out.ensures.driver) c.in_ok-out.ensures.working.nominator c.in_ok-out.ensures.working.running.nominating (returns-clause-votes g c))
    (c.requires.sound whole).1 (returns-clause-takes g c) in
    (c.in_ok-out.ensures.working, all.0)
