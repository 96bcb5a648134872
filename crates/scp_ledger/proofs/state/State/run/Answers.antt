use Rattle.std.proofs.Common.{◌≡◌, ◌∙◌, ℕ, Bool, cond, refl, sym, ap, subst}
use Rattle.std.specs.Prelude.{Some, None, IsSome}
use Rattle.std.specs.Option.{option_copied_mut}
use Rattle.std.specs.BTreeMap as tree
use Rattle.std.specs.Ordering.{nat_cmp}
use Rattle.scp_ledger.specs.Seen.{machine_at}
use Rattle.scp_ledger.specs.inside.State.{IsTakenOut}
use Rattle.scp_ledger.specs.declared.state.State.{State}
use Rattle.scp_ledger.proofs.Outcomes.{run_and_gone}
use Rattle.scp_ledger.proofs.state.State.run.Goals as goal
use Rattle.scp_ledger.proofs.state.State.run.Goals.{then-is_some, else-is_some}

pub returns-clause-ran : goal.returns-clause-ran
returns-clause-ran g c =
    let old = c.args.self.now.machines.entries in
    let m = c.in-Some.machine.now in
    let n = c.enter.new.machine in
    let mid = (c.get_mut.follows.lender n).entries in
    let there : machine_at old c.args.slot.0 ≡ Some m = sym c.get_mut.ensures.value ∙ ap (λ o. option_copied_mut o) c.in-Some.is in
    let written = c.get_mut.follows.holds n in
    let put : (s : ℕ) → machine_at mid s ≡ cond (tree.is_at (nat_cmp c.args.slot.0) s) (Some n) (machine_at old s) = (written.3 (subst (λ o. IsSome o) (sym there) refl)).0 in
    record {
      before = m;
      taken = subst (λ o. IsTakenOut g.D.Driver.says.level g.D.Driver.says.place c.args.self.now c.args.slot o m) (sym there) refl;
      after = n;
      takes = c.in_ok-out-in-Some.ensures.takes;
      decides = c.in_ok-out-in-Some.ensures.decides;
      ascending = c.in_ok-out-in-Some.ensures.ascending;
      nominates = c.in_ok-out-in-Some.ensures.nominates;
      votes = c.in_ok-out-in-Some.ensures.votes;
      running = c.in_ok-out-in-Some.ensures.running;
      sound = c.enter.ensures.sound;
      its_driver = c.in_ok-out-in-Some.ensures.driver;
      machines = λ s.
          let t = tree.is_at (nat_cmp c.args.slot.0) s in
          elim c.if-is_some.branch [
            | then-is_some w ↦ subst (λ (b : Bool). machine_at c.if-is_some.self.machines.entries s ≡ cond t (cond b None (Some n)) (machine_at old s)) (sym (sym c.is_some.ensures ∙ w.if-is_some.true))
                (ap (λ (st : State _). machine_at st.machines.entries s) w.self-is ∙ run_and_gone (machine_at old s) (machine_at mid s) (machine_at w.give_up.new.self.machines.entries s) n t (put s) (w.give_up.ensures.machines s))
            | else-is_some w ↦ subst (λ (b : Bool). machine_at c.if-is_some.self.machines.entries s ≡ cond t (cond b None (Some n)) (machine_at old s)) (sym (sym c.is_some.ensures ∙ w.if-is_some.false))
                (ap (λ (st : State _). machine_at st.machines.entries s) w.self-is ∙ put s)
          ];
    }
