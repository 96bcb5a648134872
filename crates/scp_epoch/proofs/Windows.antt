-- Where the machines and the decisions of a ledger are: from its first slot on, and before the 16th slot after the lowest undecided one.
use Rattle.std.proofs.Common.{◌≡◌, ◌+◌, ◌<◌, ◌≤◌, ℕ, Bool, true, false, cond, nat_eq, append_assoc, append-nil, List, [], ◌∷◌, ◌++◌, refl, sym, ◌∙◌, ap, subst, inl, inr, ◌⊎◌, arith}
use Rattle.std.specs.Prelude.{Option, Some, None, Contains, is_some, option_to_list, ◌||◌}
use Rattle.std.specs.BTreeMap as tree
use Rattle.std.specs.Ordering.{nat_cmp}
use Rattle.std.proofs.lemmas.Bool.{cases_lt, eqb-true}
use Rattle.scp_again.specs.scp_types.specs.declared.limits.TheConstants.{WINDOW}
use Rattle.scp_again.specs.scp_types.specs.declared.names.ConnId.{ConnId}
use Rattle.scp_again.specs.scp_types.specs.declared.names.Seq.{Seq}
use Rattle.scp_again.specs.scp_types.specs.declared.names.Slot.{Slot}
use Rattle.scp_again.specs.scp_driver.specs.Driver.{Says}
use Rattle.scp_again.specs.scp_quorum.specs.SharedSet.{SharedSet}
use Rattle.scp_again.specs.scp_slot.specs.declared.machine.SlotMachine.{SlotMachine}
use Rattle.scp_again.specs.scp_slot.specs.declared.output.SlotInput.{SlotInput}
use Rattle.scp_again.specs.scp_pending.specs.declared.ready.Ready.{Ready}
use Rattle.scp_again.specs.scp_ledger.specs.declared.journal.Decision.{Decision}
use Rattle.scp_again.specs.scp_ledger.specs.declared.journal.Fate.{Fate}
use Rattle.scp_again.specs.scp_ledger.specs.declared.journal.Verdict.{Verdict}
use Rattle.scp_again.specs.scp_ledger.specs.declared.took.Took.{Took}
use Rattle.scp_again.specs.scp_ledger.specs.By.{TakesBy, RunsBy}
use Rattle.scp_again.specs.scp_ledger.specs.Decisions.{is_decided, named_by, IsLowest, IsNext, AreInWindow}
use Rattle.scp_again.specs.scp_ledger.specs.Ledger.{IsLedger}
use Rattle.scp_again.specs.scp_ledger.specs.Seen.{LedgerView, machine_at}
use Rattle.scp_again.specs.scp_ledger.specs.Takes.{RunsAt, Passes, Decides, Forwards, Asks, decision_of}
use Rattle.scp_again.specs.scp_ledger.specs.Verdicts.{IsOpen}
use Rattle.scp_again.specs.scp_theorem.proofs.Basics.{true_isnt, which, none_some, at_is}
use Rattle.scp_again.specs.scp_theorem.proofs.Machines.{decided_then, decided_front}
use Rattle.scp_again.specs.scp_theorem.proofs.Ledgers.{whatever_thing}
use Rattle.scp_again.proofs.Current.{true_false}
use Rattle.scp_again.specs.scp_core.specs.declared.config.Config.{Config}
use Rattle.scp_again.specs.scp_core.specs.declared.event.Event.{Event}
use Rattle.scp_again.specs.scp_core.specs.declared.event.Event.TheVariants.{Open, Send, Close, Local, ReaderTake, ReaderPut, PendTake, PendPut, SlotTake, SlotPut, ApplyTake, Drain}
use Rattle.scp_again.specs.scp_core.specs.declared.event.Reply.{Reply}
use Rattle.scp_again.specs.scp_core.specs.declared.event.Reply.TheVariants.{Failed, NoLink, AlreadyOpen, LivesSpent, NotOpen, Full, Accepted, Blocked, Idle, Moved, Sent, JournalFull, NoMemory}
use Rattle.scp_again.specs.scp_core.specs.History.{Exchange}
use Rattle.scp_again.specs.scp_core.specs.Node.{NodeView, Accepts, Moves, SendsOut, Step}
use Rattle.scp_again.specs.scp_core.specs.Theorem.{begun}
use Rattle.scp_turn.specs.Turn.{Does}

-- ---- the lowest undecided slot

-- it only grows
lower : (first low high : ℕ) (ds es : List Decision) → IsLowest first ds low → IsLowest first es high → ((s : ℕ) → is_decided s ds ≡ true → is_decided s es ≡ true) → low ≤ high
lower first low high ds es a b grows = elim (cases_lt high low) [
  | inl less ↦ true_false (is_decided high es) (grows high (a.decided high b.from_first less)) b.undecided
  | inr more ↦ more
]

-- a decided slot is from the first one on, and before the 16th after the lowest undecided one
decided_where : (first low : ℕ) (earlier ds all : List Decision) (slot : ℕ) → AreInWindow first earlier ds → IsLowest first all low → ((s : ℕ) → is_decided s (earlier ++ ds) ≡ true → is_decided s all ≡ true) → is_decided slot ds ≡ true → (first ≤ slot) × (slot < low + WINDOW)
decided_where first low earlier [] all slot p lowest grows e = absurd (true_isnt (sym e))
decided_where first low earlier (d ∷ ds) all slot p lowest grows e = elim (which (nat_eq d.slot.0 slot)) [
  | inl here ↦ (
      let n = p.0 in
      let same : d.slot.0 ≡ slot = eqb-true d.slot.0 slot here in
      let low' : n.lowest ≤ low = lower first n.lowest low earlier all n.is_lowest lowest (λ s was. grows s (decided_front s earlier (d ∷ ds) was)) in
      let from = n.is_lowest.from_first in
      let at = n.from in
      let near = n.near in
      (omega arith, omega arith)
      )
  | inr other ↦ decided_where first low (earlier ++ d ∷ []) ds all slot p.1 lowest (λ s was. grows s (subst (λ (xs : List Decision). is_decided s xs ≡ true) (append_assoc earlier (d ∷ []) ds) was)) (ap (λ (b : Bool). b || is_decided slot ds) (sym other) ∙ e)
]

-- an open slot is among the 16
open_within : (low : ℕ) (ds : List Decision) (at : ℕ) → IsOpen low ds at → (low ≤ at) × (at < low + WINDOW)
open_within low ds at o = (o.not_old, elim (cases_lt at (low + WINDOW)) [ inl less ↦ less | inr far ↦ absurd (o.not_far (inr far)) ])

module _ {D : Type 0} where
  -- where a ledger's machines and decisions are
  pub record IsWithin (v : LedgerView D) : Type 0 where
    pub lowest : IsLowest v.first v.decisions v.lowest
    pub placed : AreInWindow v.first [] v.decisions
    pub machines : (at : ℕ) (m : SlotMachine D) → machine_at v.machines at ≡ Some m → (v.first ≤ at) × (at < v.lowest + WINDOW)

  -- a decided slot is there too
  pub decided_within : (v : LedgerView D) → IsWithin v → (slot : ℕ) → is_decided slot v.decisions ≡ true → (v.first ≤ slot) × (slot < v.lowest + WINDOW)
  decided_within v w slot e = decided_where v.first v.lowest [] v.decisions v.decisions slot w.placed w.lowest (λ s was. was) e

  module _ (old new : LedgerView D) (low : IsLowest new.first new.decisions new.lowest) (placed : AreInWindow new.first [] new.decisions) (w : IsWithin old) (first : new.first ≡ old.first) where
    -- a machine that was there is there
    stays : (more : List Decision) → new.decisions ≡ old.decisions ++ more → (at : ℕ) → (old.first ≤ at) × (at < old.lowest + WINDOW) → (new.first ≤ at) × (at < new.lowest + WINDOW)
    stays more grown at p =
        let here : IsLowest old.first new.decisions new.lowest = subst (λ (n : ℕ). IsLowest n new.decisions new.lowest) first low in
        let up : old.lowest ≤ new.lowest = lower old.first old.lowest new.lowest old.decisions new.decisions w.lowest here (λ s was. decided_then s old.decisions new.decisions more grown was) in
        let from = p.0 in
        let near = p.1 in
        (omega arith, omega arith)

    same_machines : new.machines ≡ old.machines → new.decisions ≡ old.decisions → IsWithin new
    same_machines machines decisions = record {
      lowest = low;
      placed = placed;
      machines = λ at m there. stays [] (decisions ∙ sym (append-nil old.decisions)) at (w.machines at m (ap (λ (ms : List (ℕ × SlotMachine D)). machine_at ms at) (sym machines) ∙ there));
    }

    -- the machine of an open slot changes, or goes
    one_machine : (more : List Decision) (at : ℕ) (o : Option (SlotMachine D)) → new.decisions ≡ old.decisions ++ more → ((m : SlotMachine D) → o ≡ Some m → (old.lowest ≤ at) × (at < old.lowest + WINDOW)) → ((s : ℕ) → machine_at new.machines s ≡ cond (tree.is_at (nat_cmp at) s) o (machine_at old.machines s)) → IsWithin new
    one_machine more at o grown open' machines = record { lowest = low; placed = placed; machines = there_then }
      where
        there_then : (s : ℕ) (m : SlotMachine D) → machine_at new.machines s ≡ Some m → (new.first ≤ s) × (s < new.lowest + WINDOW)
        there_then s m there = elim (which (tree.is_at (nat_cmp at) s)) [
          | inl same ↦ (
              let is : at ≡ s = at_is at s same in
              let p = open' m (ap (λ (b : Bool). cond b o (machine_at old.machines s)) (sym same) ∙ sym (machines s) ∙ there) in
              let from = w.lowest.from_first in
              let above = p.0 in
              let near = p.1 in
              stays more grown s (omega arith, omega arith)
              )
          | inr other ↦ stays more grown s (w.machines s m (ap (λ (b : Bool). cond b o (machine_at old.machines s)) (sym other) ∙ sym (machines s) ∙ there))
        ]

module _ {D : Type 0} (says : Says D) where
  module _ (old : LedgerView D) (x : Ready) (took : Took) (new : LedgerView D) (known : IsLedger new) (run : RunsBy says new) (w : IsWithin old) where
    still : new.first ≡ old.first → new.machines ≡ old.machines → new.decisions ≡ old.decisions → IsWithin new
    still first machines decisions = same_machines old new run.lowest known.placed w first machines decisions

    passes : (verdict : Option Verdict) (fates : List Fate) → Passes old verdict fates took new → IsWithin new
    passes verdict fates p = still (ap (λ (v : LedgerView D). v.first) p.same) (ap (λ (v : LedgerView D). v.machines) p.same) (ap (λ (v : LedgerView D). v.decisions) p.same)

    forwards : (conn : ConnId) (seq : Seq) (at : Slot) (set : Option SharedSet) → Forwards old conn seq at set took new → IsWithin new
    forwards conn seq at set p = still (ap (λ (v : LedgerView D). v.first) p.same) (ap (λ (v : LedgerView D). v.machines) p.same) (ap (λ (v : LedgerView D). v.decisions) p.same)

    asks : (link : ℕ) (at : Slot) → Asks old link at took new → IsWithin new
    asks link at p = still (ap (λ (v : LedgerView D). v.first) p.same) (ap (λ (v : LedgerView D). v.machines) p.same) (ap (λ (v : LedgerView D). v.decisions) p.same)

    runs : (at : Slot) (given : SlotInput) (fates : List Fate) → RunsAt says.level says.extracted says.combined says.place old at given fates took new → IsWithin new
    runs at given fates r =
        one_machine old new run.lowest known.placed w (ap (λ (v : LedgerView D). v.first) r.same) (option_to_list (decision_of at r.out.decided)) at.0 (cond (is_some r.out.decided) None (Some r.after)) r.decisions (λ m is. open_within old.lowest old.decisions at.0 r.is_open) r.machines

    decides : (conn : ConnId) (seq : Seq) (at : Slot) (value : List ℕ) (set : Option SharedSet) → Decides old conn seq at value set took new → IsWithin new
    decides conn seq at value set p = one_machine old new run.lowest known.placed w (ap (λ (v : LedgerView D). v.first) p.same) (named_by conn seq at value ∷ []) at.0 None p.decisions (λ m is. none_some None m refl is) p.machines

    by_step : TakesBy says old x took new → IsWithin new
    by_step t = whatever_thing says (IsWithin new) old x took new passes runs (λ link at is. asks link at) forwards (λ conn seq at value set verdict is right. decides conn seq at value set) t

  -- ---- a node's steps

  pub begins_within : (driver : D) (c : Config) (first : ℕ) (base : List ℕ) → IsWithin (begun driver c first base).ledger
  begins_within driver c first base = record {
    lowest = record { from_first = omega arith; decided = λ s from below. absurd (omega arith); undecided = refl };
    placed = tt;
    machines = λ at m there. none_some None m refl there;
  }

  as_ledger : (old new : NodeView D) → new.ledger ≡ old.ledger → IsWithin old.ledger → IsWithin new.ledger
  as_ledger old new is w = subst IsWithin (sym is) w

  accepted : (old new : NodeView D) (event : Event) → Accepts old event new → new.ledger ≡ old.ledger
  accepted old new (Open l) a = ap (λ (v : NodeView D). v.ledger) a.2.3
  accepted old new (Send l bytes) a = ap (λ (v : NodeView D). v.ledger) a.2.2
  accepted old new (Close l) a = ap (λ (v : NodeView D). v.ledger) a.2.2
  accepted old new (Local command) a = ap (λ (v : NodeView D). v.ledger) a.2
  accepted old new event a = absurd a

  moved : (old new : NodeView D) (event : Event) → Moves says old event new → IsWithin old.ledger → IsWithin new.ledger
  moved old new (ReaderTake l) a w = as_ledger old new (ap (λ (v : NodeView D). v.ledger) a.2.4) w
  moved old new (ReaderPut l) a w = as_ledger old new (ap (λ (v : NodeView D). v.ledger) a.2.4) w
  moved old new PendTake a w = elim a.1 [
    | inl b ↦ as_ledger old new (ap (λ (v : NodeView D). v.ledger) b.is) w
    | inr b ↦ as_ledger old new (ap (λ (v : NodeView D). v.ledger) b.is) w
  ]
  moved old new PendPut a w = as_ledger old new (ap (λ (v : NodeView D). v.ledger) a.3) w
  moved old new SlotTake a w = (let b = a.1 in subst IsWithin (sym (ap (λ (v : NodeView D). v.ledger) b.is)) (by_step old.ledger b.x b.took b.after' b.known b.running w b.takes))
  moved old new SlotPut a w = as_ledger old new (ap (λ (v : NodeView D). v.ledger) a.3) w
  moved old new ApplyTake a w = as_ledger old new (ap (λ (v : NodeView D). v.ledger) a.is) w
  moved old new event a w = absurd a

  sent : (old new : NodeView D) (event : Event) (bytes : List ℕ) → SendsOut old event bytes new → new.ledger ≡ old.ledger
  sent old new (Drain l) bytes d = ap (λ (v : NodeView D). v.ledger) d.is
  sent old new event bytes d = absurd d

  same_there : (old new : NodeView D) → new ≡ old → IsWithin old.ledger → IsWithin new.ledger
  same_there old new is w = as_ledger old new (ap (λ (v : NodeView D). v.ledger) is) w

  fell : {A : Type 0} (v : NodeView D) → v.failed ≡ true → v.failed ≡ false → A
  fell v f t = true_false v.failed f t

  step_within : (old new : NodeView D) (event : Event) (reply : Reply) → Step says old event reply new → new.failed ≡ false → IsWithin old.ledger → IsWithin new.ledger
  step_within old new event Failed s runs w = same_there old new s.1 w
  step_within old new event Accepted s runs w = as_ledger old new (accepted old new event s.1) w
  step_within old new event Moved s runs w = moved old new event s.1 w
  step_within old new event (Sent bytes) s runs w = as_ledger old new (sent old new event bytes s.1) w
  step_within old new event JournalFull s runs w = fell new s.0.failed runs
  step_within old new event NoMemory s runs w = fell new s.0.failed runs
  step_within old new event NoLink s runs w = same_there old new s.2 w
  step_within old new event AlreadyOpen s runs w = same_there old new s.2 w
  step_within old new event LivesSpent s runs w = same_there old new s.2 w
  step_within old new event NotOpen s runs w = same_there old new s.2 w
  step_within old new event Full s runs w = same_there old new s.2 w
  step_within old new event Blocked s runs w = same_there old new s.2 w
  step_within old new event Idle s runs w = same_there old new s.2 w

  -- what runs ran before
  step_ran : (old new : NodeView D) (event : Event) (reply : Reply) → Step says old event reply new → new.failed ≡ false → old.failed ≡ false
  step_ran old new event Failed s runs = ap (λ (v : NodeView D). v.failed) (sym s.1) ∙ runs
  step_ran old new event Accepted s runs = s.0
  step_ran old new event Moved s runs = s.0
  step_ran old new event (Sent bytes) s runs = s.0
  step_ran old new event JournalFull s runs = s.0.was
  step_ran old new event NoMemory s runs = s.0.was
  step_ran old new event NoLink s runs = s.0
  step_ran old new event AlreadyOpen s runs = s.0
  step_ran old new event LivesSpent s runs = s.0
  step_ran old new event NotOpen s runs = s.0
  step_ran old new event Full s runs = s.0
  step_ran old new event Blocked s runs = s.0
  step_ran old new event Idle s runs = s.0

  pub does_ran : (heard : List Exchange) (a b : NodeView D) → Does says a heard b → b.failed ≡ false → a.failed ≡ false
  does_ran [] a b d runs = ap (λ (v : NodeView D). v.failed) (sym d) ∙ runs
  does_ran (x ∷ heard) a b d runs = step_ran a d.0 x.0 x.1 d.1 (does_ran heard d.0 b d.2 runs)

  pub does_within : (heard : List Exchange) (a b : NodeView D) → Does says a heard b → b.failed ≡ false → IsWithin a.ledger → IsWithin b.ledger
  does_within [] a b d runs w = subst (λ (v : NodeView D). IsWithin v.ledger) (sym d) w
  does_within (x ∷ heard) a b d runs w = does_within heard d.0 b d.2 runs (step_within a d.0 x.0 x.1 d.1 (does_ran heard d.0 b d.2 runs) w)
