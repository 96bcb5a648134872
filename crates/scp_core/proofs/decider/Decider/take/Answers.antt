use Rattle.std.proofs.Common.{◌∙◌, ap, sym}
use Rattle.std.specs.Prelude.{is_some}
use Rattle.scp_core.specs.inside.Decider.{DeciderView}
use Rattle.scp_core.proofs.Deciding.{sound_take}
use Rattle.scp_core.proofs.decider.Decider.take.Goals as goal

pub take-requires : goal.take-requires
take-requires g c = record { runs = (c.self.invariant (ap (λ (v : DeciderView _). v.failed) c.self.view_is ∙ c.requires.runs)).ledger_runs }

pub invariant_of-self : goal.invariant_of-self
invariant_of-self g c = λ runs.
    let t = c.in-Ok.ensures.takes in
    rw (← t.onward_is, ← t.command_is, ← t.said_is) (sound_take g.A.Driver.says c.what_holds_of_a_ledger_holds_with_one_thing_more.ensures.grows _ _ t.took _ (ap (λ (v : DeciderView _). v.hand) c.self.view_is ∙ c.requires.empty) t.takes t.known t.running (c.self.invariant runs))

pub returns-in-Ok : goal.returns-in-Ok
returns-in-Ok g c =
    let t = c.in-Ok.ensures.takes in (
      t.took,
      rw (← c.self.view_is) t.takes,
      rw (← c.self.view_is) t.tells,
      t.known,
      t.running,
      rw (← c.self.view_is) (λ i. record {
        failed = is_some c.self.inside.failed;
        fault = c.self.inside.failed;
        ledger = c.take.new.self;
        hand = sym t.onward_is i;
        last_command = sym t.command_is i;
        last_said = sym t.said_is i;
        queue = c.self.inside.queue.items;
        room = c.self.inside.queue.capacity;
        applier = c.self.inside.applier;
      }),
      t.hands,
    )
