use Rattle.std.proofs.Common.{◌≡◌, ◌≢◌, Bool, true, false, Option, Some, None, refl, sym, ◌∙◌, ap, subst, inl, inr, rules}
use Rattle.scp_slot.specs.Slot.{view_of}
use Rattle.scp_slot.proofs.Taking.{running_taken}
use Rattle.scp_slot.proofs.state.State.enter.Goals as goal

pub returns-clause-working : goal.returns-clause-working
returns-clause-working g c = record {
  running = running_taken _ _ c.args.input (view_of c.args.self.now false) c.in_ok-out.out (view_of c.enter_undecided.new.self false) c.requires.working.running c.if-self.false c.in_ok-out.ensures.takes;
  nominator = c.in_ok-out.ensures.sound;
}
