use Rattle.std.proofs.Common.{◌≡◌, ℕ, Bool, cond, sym, subst}
use Rattle.std.specs.Prelude.{Some, None}
use Rattle.std.specs.BTreeMap as tree
use Rattle.std.specs.Ordering.{nat_cmp}
use Rattle.scp_slot.specs.Takes.{IsOfSlot}
use Rattle.scp_ledger.specs.Seen.{machine_at}
use Rattle.scp_ledger.specs.inside.State.{IsTakenOut}
use Rattle.scp_ledger.proofs.Outcomes.{made_and_kept}
use Rattle.scp_ledger.proofs.Ran.{at_is}
use Rattle.scp_ledger.proofs.state.State.start.Goals as goal

pub enter-requires-clause-sound : goal.enter-requires-clause-sound
enter-requires-clause-sound g c = c.in_ok-machine.ensures.made.sound

pub enter-requires-clause-of_slot : goal.enter-requires-clause-of_slot
enter-requires-clause-of_slot g c = subst (λ (n : ℕ). IsOfSlot n c.args.input) (sym c.in_ok-machine.ensures.made.begins.slot) c.requires.of_slot

pub returns-clause-ran : goal.returns-clause-ran
returns-clause-ran g c =
    let old = c.args.self.now.machines.entries in
    let new = c.keep.new.self.machines.entries in
    record {
      before = c.in_ok-machine.machine;
      taken = subst (λ o. IsTakenOut g.D.Driver.says.level g.D.Driver.says.place c.args.self.now c.args.slot o c.in_ok-machine.machine) (sym c.requires.none) c.in_ok-machine.ensures.made;
      after = c.enter.new.machine;
      takes = c.in_ok-out.ensures.takes;
      decides = c.in_ok-out.ensures.decides;
      ascending = c.in_ok-out.ensures.ascending;
      nominates = c.in_ok-out.ensures.nominates;
      votes = c.in_ok-out.ensures.votes;
      running = c.in_ok-out.ensures.running;
      sound = c.enter.ensures.sound;
      its_driver = c.in_ok-out.ensures.driver;
      machines = λ s.
          let t = tree.is_at (nat_cmp c.args.slot.0) s in
          subst (λ (b : Bool). machine_at new s ≡ cond t (cond b None (Some c.enter.new.machine)) (machine_at old s)) c.is_some.ensures
          (made_and_kept (machine_at old s) (machine_at new s) c.enter.new.machine t c.is_some.result (λ here. subst (λ (n : ℕ). machine_at old n ≡ None) (at_is c.args.slot.0 s here) c.requires.none) (c.in_ok-keep.ensures.put s));
    }
