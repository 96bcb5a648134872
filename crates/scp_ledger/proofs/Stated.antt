-- The state after a run, after an entry alone, after an ask, and after a record that decides.
use Rattle.std.proofs.Common.{◌≡◌, ℕ, ◌+◌, ◌<◌, ◌≤◌, Bool, true, false, cond, List, [], ◌∷◌, ◌++◌, refl, sym, ◌∙◌, ap, subst, length, length-append, arith, Result, Ok, Err}
use Rattle.std.specs.Prelude.{Option, Some, None, IfSome, Contains, option_to_list, OnOk}
use Rattle.std.specs.BTreeMap as tree
use Rattle.std.specs.BTreeSet as tree_set
use Rattle.std.specs.BTreeSet.{BTreeSet}
use Rattle.std.specs.Cmp.{unsigned_tied}
use Rattle.std.specs.Ordering.{nat_cmp}
use Rattle.std.proofs.lemmas.List.{append-nil}
use Rattle.std.proofs.lemmas.List.Elements.{All-nil, All-cons, Contains-push}
use Rattle.scp_slot.specs.scp_types.specs.declared.names.ConnId.{ConnId}
use Rattle.scp_slot.specs.scp_types.specs.declared.names.Seq.{Seq}
use Rattle.scp_slot.specs.scp_types.specs.declared.names.Slot.{Slot}
use Rattle.scp_slot.specs.scp_driver.specs.declared.driver.Level.{Level}
use Rattle.scp_slot.specs.scp_quorum.specs.SharedSet.{SharedSet}
use Rattle.scp_pending.specs.scp_wire.specs.declared.message.Message.TheVariants.{Record}
use Rattle.scp_slot.specs.declared.machine.SlotMachine.{SlotMachine}
use Rattle.scp_slot.specs.declared.output.SlotInput.{SlotInput}
use Rattle.scp_slot.specs.declared.output.SlotOutput.{SlotOutput}
use Rattle.scp_slot.specs.Slot.{slot_view, driver_of}
use Rattle.scp_slot.specs.Takes as slot
use Rattle.scp_ledger.specs.declared.journal.Asking.{Asking}
use Rattle.scp_ledger.specs.declared.journal.Decision.{Decision}
use Rattle.scp_ledger.specs.declared.journal.Fate.{Fate}
use Rattle.scp_ledger.specs.declared.journal.Fate.TheVariants.{Taken}
use Rattle.scp_ledger.specs.declared.journal.Verdict.{Verdict}
use Rattle.scp_ledger.specs.declared.journal.Verdict.TheVariants.{Decided}
use Rattle.scp_ledger.specs.declared.state.Entering.{Entering}
use Rattle.scp_ledger.specs.declared.state.State.{State}
use Rattle.scp_ledger.specs.Journal.{newest}
use Rattle.scp_ledger.specs.Decisions.{HasItsDecision, named_by}
use Rattle.scp_ledger.specs.Verdicts.{IsOpen, HasItsSet, link_of}
use Rattle.scp_ledger.specs.Seen.{machine_at, is_asked, asking_cmp}
use Rattle.scp_ledger.specs.Ledger.{HasMachines, FitsMachine, IsMachineOf}
use Rattle.scp_ledger.specs.inside.Entering.{Enters, entries_of, IsQuiet}
use Rattle.scp_ledger.specs.inside.Window.{IsWindow}
use Rattle.scp_ledger.specs.inside.State.{state_view, IsSound, IsTakenOut, Ran, KeepsRest}
use Rattle.scp_ledger.specs.Takes.{decision_of, verdict_from}
use Rattle.scp_ledger.proofs.Newest.{newest-passed}
use Rattle.scp_ledger.proofs.Boards.{stepped}
use Rattle.scp_ledger.proofs.Kept.{Hears, Adds, IsLedger-grown, next_open, begins, fits_elsewhere, fits_passed, fits_decided}
use Rattle.scp_ledger.proofs.Ran.{Runs, at_is, ledger_ran, machines_ran, entries_have_sets}

pub on_ok : {X E : Type 0} (r : Result X E) (P Q : Type 0) → (P → Q) → OnOk r P → OnOk r Q
on_ok (Ok x) P Q f p = f p
on_ok (Err e) P Q f p = tt

pub on_ok3 : {X E : Type 0} (r : Result X E) (A B C D : Type 0) → (A → B → C → D) → OnOk r A → OnOk r B → OnOk r C → OnOk r D
on_ok3 (Ok x) A B C D f a b c = f a b c
on_ok3 (Err e) A B C D f a b c = tt

entries_length : (entering : Option Entering) (verdict : Verdict) → length (entries_of entering verdict) ≡ length (option_to_list entering)
entries_length None verdict = refl
entries_length (Some e) verdict = refl

module _ {D : Type 0} (level : D → ℕ → List ℕ → Level) (extracted : D → ℕ → List ℕ → Option (List ℕ)) (combined : D → ℕ → List (List ℕ) → List ℕ) (place : D → ℕ → ℕ → ℕ → ℕ) where
  -- ---- the machine that is taken out is that of its slot

  taken_fits : (s : State D) (at : Slot) (o : Option (SlotMachine D)) (m : SlotMachine D) → IsOpen s.window.lowest s.decisions.items at.0 → FitsMachine level place s.me s.local.value s.driver s.journal.items s.decisions.items at.0 o → IsTakenOut level place s at o m
      → IsMachineOf level place s.me s.local.value s.driver s.journal.items s.decisions.items at.0 m
  taken_fits s at None m is fits made = begins level place s.me s.local.value s.driver s.journal.items s.decisions.items at.0 m is.undecided (fits is.undecided) made.begins made.its_driver made.running made.sound
  taken_fits s at (Some there) m is fits same = subst (λ (x : SlotMachine D). IsMachineOf level place s.me s.local.value s.driver s.journal.items s.decisions.items at.0 x) (sym same) fits

  pub taken_machine : (s : State D) (at : Slot) (m : SlotMachine D) → IsSound level place s → IsOpen s.window.lowest s.decisions.items at.0 → IsTakenOut level place s at (machine_at s.machines.entries at.0) m → IsMachineOf level place s.me s.local.value s.driver s.journal.items s.decisions.items at.0 m
  taken_machine s at m h is taken = taken_fits s at (machine_at s.machines.entries at.0) m is (h.machines at.0) taken

  pub runs_by : (old mid : State D) (at : Slot) (given : SlotInput) (out : SlotOutput) → IsSound level place old → IsOpen old.window.lowest old.decisions.items at.0 → (r : Ran level extracted combined place old at given out mid) → Runs level place (state_view false old) at given out r.before r.after
  runs_by old mid at given out h is r =
      let m = taken_machine old at r.before h is r.taken in
      record {
        is_open = is;
        low = h.window.lowest;
        machine = m;
        step = stepped (level (driver_of r.before) (slot_view r.before).slot) (combined (driver_of r.before) (slot_view r.before).nomination.slot) given (slot_view r.before) out (slot_view r.after) m.silent r.takes;
        decides = r.decides;
        running = r.running;
        sound = r.sound;
        same_driver = r.its_driver;
      }

  pub sound_ran : (old mid new : State D) (at : Slot) (given : SlotInput) (out : SlotOutput) (entering : Option Entering) → IsSound level place old → IsOpen old.window.lowest old.decisions.items at.0 → Ran level extracted combined place old at given out mid
      → mid ≡ record old { machines = mid.machines } → Enters given entering → slot.IsOfSlot at.0 given → length old.journal.items + length (option_to_list entering) ≤ 1000000
      → new.journal.items ≡ mid.journal.items ++ entries_of entering (verdict_from out.verdict) → new.decisions.items ≡ mid.decisions.items ++ option_to_list (decision_of at out.decided) → IsWindow (new.before + 1) new.decisions.items new.window → KeepsRest mid new → IsSound level place new
  sound_ran old mid new at given out entering h is r same enters of_slot room journal decisions window rest =
      let v = state_view false old in
      let w = state_view false new in
      let verdict = verdict_from out.verdict in
      let fates = entries_of entering verdict in
      let more = decision_of at out.decided in
      let runs = runs_by old mid at given out h is r in
      let adds : Adds v w fates more = record {
        me = rest.me ∙ ap (λ (s : State D). s.me) same;
        local = ap (λ x. x.value) rest.local ∙ ap (λ (s : State D). s.local.value) same;
        peers = ap (λ x. x.items) rest.peers ∙ ap (λ (s : State D). s.peers.items) same;
        first = ap (λ (n : ℕ). n + 1) (rest.before ∙ ap (λ (s : State D). s.before) same);
        journal = journal ∙ ap (λ (s : State D). s.journal.items ++ fates) same;
        decisions = decisions ∙ ap (λ (s : State D). s.decisions.items ++ option_to_list more) same;
        asked = λ a e. ap (λ (keys : List Asking). is_asked keys a) (ap (λ x. x.keys) rest.asked ∙ ap (λ (s : State D). s.asked.keys) same) ∙ e;
        short = omega (arith, room, length-append old.journal.items fates, entries_length entering verdict);
        sets = entries_have_sets given entering verdict enters;
      } in
      record {
        ledger = ledger_ran level place v w at given out r.before r.after entering h.ledger runs enters of_slot adds;
        window = window;
        machines = machines_ran level place v w at given out r.before r.after entering h.machines runs enters of_slot (rest.driver ∙ ap (λ (s : State D). s.driver) same) adds (λ s. ap (λ x. machine_at x.entries s) rest.machines ∙ r.machines s);
        few_peers = rw adds.peers h.few_peers;
      }

  -- ---- an entry alone

  pub sound_passed : (old new : State D) (fate : Fate) → IsSound level place old → IsQuiet fate → length old.journal.items < 1000000 → new.journal.items ≡ old.journal.items ++ fate ∷ [] → new.decisions.items ≡ old.decisions.items → KeepsRest old new → new.window ≡ old.window → IsSound level place new
  sound_passed old new fate h quiet room journal decisions rest window =
      let v = state_view false old in
      let w = state_view false new in
      let hs : Hears old.journal.items new.journal.items 0 None = λ at kind x. ap (λ (fs : List Fate). newest at kind x fs) journal ∙ newest-passed at kind x old.journal.items fate quiet.stale in
      let adds : Adds v w (fate ∷ []) None = record {
        me = rest.me;
        local = ap (λ x. x.value) rest.local;
        peers = ap (λ x. x.items) rest.peers;
        first = ap (λ (n : ℕ). n + 1) rest.before;
        journal = journal;
        decisions = decisions ∙ sym (append-nil old.decisions.items);
        asked = λ a e. ap (λ x. is_asked x.keys a) rest.asked ∙ e;
        short = omega (arith, room, length-append old.journal.items (fate ∷ []));
        sets = All-cons HasItsSet fate [] quiet.its_set (All-nil HasItsSet);
      } in
      record {
        ledger = IsLedger-grown v w (fate ∷ []) None h.ledger adds (λ at yes' kind x. hs at kind x) tt tt (All-cons (HasItsDecision new.decisions.items) fate [] (subst (λ (o : Option Decision). IfSome o (Contains new.decisions.items)) (sym quiet.decides_nothing) tt) (All-nil (HasItsDecision new.decisions.items)));
        window = rw (rest.before, decisions, window) h.window;
        machines = λ s. rw (rest.me, rest.local, rest.driver, decisions, rest.machines) (fits_passed level place old.me old.local.value old.driver old.journal.items new.journal.items old.decisions.items s (machine_at old.machines.entries s) hs (h.machines s));
        few_peers = rw adds.peers h.few_peers;
      }

  -- ---- an ask more

  pub sound_asked : (old : State D) (asked : BTreeSet Asking) (a : Asking) → tree_set.Updates asking_cmp old.asked asked a true → IsSound level place old → IsSound level place (record old { asked = asked })
  sound_asked old asked a u h =
      let v = state_view false old in
      let w = state_view false (record old { asked = asked }) in
      let adds : Adds v w [] None = record {
        me = refl;
        local = refl;
        peers = refl;
        first = refl;
        journal = sym (append-nil old.journal.items);
        decisions = sym (append-nil old.decisions.items);
        asked = λ b e. u.0 b ∙ ap (λ (x : Bool). cond (tree.is_at (asking_cmp a) b) true x) e ∙ both (tree.is_at (asking_cmp a) b);
        short = omega (arith, h.ledger.few, length-append old.journal.items []);
        sets = All-nil HasItsSet;
      } in
      record {
        ledger = IsLedger-grown v w [] None h.ledger adds (λ at decided kind x. refl) tt tt (All-nil (HasItsDecision old.decisions.items));
        window = h.window;
        machines = h.machines;
        few_peers = h.few_peers;
      }
    where
      both : (b : Bool) → cond b true true ≡ true
      both true = refl
      both false = refl

  -- ---- a decision by a record

  fits_named : (old : State D) (newj : List Fate) (at : Slot) (d : Decision) → d.slot.0 ≡ at.0 → Hears old.journal.items newj at.0 None → HasMachines level place (state_view false old) → (s : ℕ) (b : Bool) → tree.is_at (nat_cmp at.0) s ≡ b
      → FitsMachine level place old.me old.local.value old.driver newj (old.decisions.items ++ d ∷ []) s (cond b None (machine_at old.machines.entries s))
  fits_named old newj at d is hs fits s true e = subst (λ (x : ℕ). FitsMachine level place old.me old.local.value old.driver newj (old.decisions.items ++ d ∷ []) x None) (at_is at.0 s e) (fits_decided level place old.me old.local.value old.driver newj at.0 old.decisions.items d is)
  fits_named old newj at d is hs fits s false e = fits_elsewhere level place old.me old.local.value old.driver old.journal.items newj at.0 None old.decisions.items (Some d) s (machine_at old.machines.entries s) hs is (sym (unsigned_tied at.0 s) ∙ e) (fits s)

  pub sound_named : (old mid new : State D) (conn : ConnId) (seq : Seq) (at : Slot) (value : List ℕ) (set : Option SharedSet) → IsSound level place old → IsOpen old.window.lowest old.decisions.items at.0 → is_asked old.asked.keys (record { link = link_of old.peers.items conn; slot = at }) ≡ true → length old.journal.items < 1000000
      → HasItsSet (Taken conn seq (Record at value) set Decided)
      → ((s : ℕ) → machine_at mid.machines.entries s ≡ cond (tree.is_at (nat_cmp at.0) s) None (machine_at old.machines.entries s)) → mid ≡ record old { machines = mid.machines }
      → new.journal.items ≡ mid.journal.items ++ Taken conn seq (Record at value) set Decided ∷ [] → new.decisions.items ≡ mid.decisions.items ++ named_by conn seq at value ∷ [] → IsWindow (new.before + 1) new.decisions.items new.window → KeepsRest mid new → IsSound level place new
  sound_named old mid new conn seq at value set h is asked room its_set machines same journal decisions window rest =
      let v = state_view false old in
      let w = state_view false new in
      let fate = Taken conn seq (Record at value) set Decided in
      let d : Decision = named_by conn seq at value in
      let grown : new.journal.items ≡ old.journal.items ++ fate ∷ [] = journal ∙ ap (λ (s : State D). s.journal.items ++ fate ∷ []) same in
      let more : new.decisions.items ≡ old.decisions.items ++ d ∷ [] = decisions ∙ ap (λ (s : State D). s.decisions.items ++ d ∷ []) same in
      let asked_same : new.asked.keys ≡ old.asked.keys = ap (λ x. x.keys) rest.asked ∙ ap (λ (s : State D). s.asked.keys) same in
      let hs : Hears old.journal.items new.journal.items at.0 None = λ s kind x. ap (λ (fs : List Fate). newest s kind x fs) grown ∙ newest-passed s kind x old.journal.items fate refl in
      let adds : Adds v w (fate ∷ []) (Some d) = record {
        me = rest.me ∙ ap (λ (s : State D). s.me) same;
        local = ap (λ x. x.value) rest.local ∙ ap (λ (s : State D). s.local.value) same;
        peers = ap (λ x. x.items) rest.peers ∙ ap (λ (s : State D). s.peers.items) same;
        first = ap (λ (n : ℕ). n + 1) (rest.before ∙ ap (λ (s : State D). s.before) same);
        journal = grown;
        decisions = more;
        asked = λ a e. ap (λ (keys : List Asking). is_asked keys a) asked_same ∙ e;
        short = omega (arith, room, length-append old.journal.items (fate ∷ []));
        sets = All-cons HasItsSet fate [] its_set (All-nil HasItsSet);
      } in
      let driver : new.driver ≡ old.driver = rest.driver ∙ ap (λ (s : State D). s.driver) same in
      let has : Contains new.journal.items fate = subst (λ (fs : List Fate). Contains fs fate) (sym grown) (Contains-push old.journal.items fate) in
      let has_d : Contains new.decisions.items d = subst (λ (ds : List Decision). Contains ds d) (sym more) (Contains-push old.decisions.items d) in
      let its_ask : is_asked new.asked.keys (record { link = link_of old.peers.items conn; slot = at }) ≡ true = ap (λ (keys : List Asking). is_asked keys (record { link = link_of old.peers.items conn; slot = at })) asked_same ∙ asked in
      record {
        ledger = IsLedger-grown v w (fate ∷ []) (Some d) h.ledger adds (λ s yes' kind x. hs s kind x) (next_open (old.before + 1) old.decisions.items old.window.lowest d h.window.lowest is) ((set, has), its_ask) (All-cons (HasItsDecision new.decisions.items) fate [] has_d (All-nil (HasItsDecision new.decisions.items)));
        window = window;
        machines = λ s. subst (λ (o : Option (SlotMachine D)). FitsMachine level place new.me new.local.value new.driver new.journal.items new.decisions.items s o) (sym (ap (λ x. machine_at x.entries s) rest.machines ∙ machines s)) (rw (adds.me, adds.local, driver, more) (fits_named old new.journal.items at d refl hs h.machines s (tree.is_at (nat_cmp at.0) s) refl));
        few_peers = rw adds.peers h.few_peers;
      }

  -- ---- at the start

  pub sound_new : (s : State D) → s.journal.items ≡ [] → s.decisions.items ≡ [] → s.machines.entries ≡ [] → IsWindow (s.before + 1) [] s.window → length s.peers.items ≤ 255 → IsSound level place s
  sound_new s journal decisions machines window few = record {
    ledger = record {
      one = rw decisions (λ i j d lt within. absurd (omega (arith, lt, within)));
      placed = rw decisions tt;
      founded = rw decisions (λ k d lt. absurd (omega (arith, lt)));
      named = rw journal (λ k d lt. absurd (omega (arith, lt)));
      sets = rw journal (All-nil HasItsSet);
      few = rw journal (omega arith);
    };
    window = rw decisions window;
    machines = λ at. rw machines (λ undecided kind v. ap (λ (fs : List Fate). newest at kind v fs) journal);
    few_peers = few;
  }
