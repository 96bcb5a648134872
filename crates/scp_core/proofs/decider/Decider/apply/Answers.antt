use Rattle.std.proofs.Common.{◌∙◌, ap, refl}
use Rattle.scp_core.specs.inside.Decider.{DeciderView}
use Rattle.scp_core.proofs.Deciding.{can_take, sound_apply, takes_runs}
use Rattle.scp_core.proofs.decider.Decider.apply.Goals as goal

pub take-requires : goal.take-requires
take-requires g c = record { next = λ _. can_take g.A.Driver.says c.the_next_decision_can_be_taken.ensures _ c.in-Some.onward c.next.new.queue.items (c.self.invariant (ap (λ (v : DeciderView _). v.failed) c.self.view_is ∙ c.requires.runs)) c.in-Some.ensures.item }

pub invariant_of-self-in-Ok : goal.invariant_of-self-in-Ok
invariant_of-self-in-Ok g c = λ runs.
    let sound = c.self.invariant runs in
    rw c.next.ensures.room (sound_apply g.A.Driver.says _ c.in-Some.onward c.next.new.queue.items c.in-Ok.answer _ c.in-Some.ensures.item c.in-Ok.ensures.takes c.take.ensures.known (c.take.ensures.running (takes_runs _ c.in-Some.onward c.in-Ok.answer _ sound.applier_runs c.in-Ok.ensures.takes)) sound)

pub returns-in-Ok-clause-applies : goal.returns-in-Ok-clause-applies
returns-in-Ok-clause-applies g c =
    let sound = c.self.invariant (ap (λ (v : DeciderView _). v.failed) c.self.view_is ∙ c.requires.runs) in
    record {
      x = c.in-Some.onward;
      rest = c.next.new.queue.items;
      queue = rw (← c.self.view_is) c.in-Some.ensures.item;
      takes = rw (← c.self.view_is) c.in-Ok.ensures.takes;
      known = c.take.ensures.known;
      running = c.take.ensures.running (takes_runs _ c.in-Some.onward c.in-Ok.answer _ sound.applier_runs c.in-Ok.ensures.takes);
      is = rw (← c.self.view_is, c.next.ensures.room) refl;
    }
