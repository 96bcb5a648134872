-- A ledger after the run of a slot's machine.
use Rattle.std.proofs.Common.{◌≡◌, ℕ, Bool, true, false, cond, List, [], ◌∷◌, ◌++◌, refl, sym, ◌∙◌, ap, subst, All, arith, nat_eq, inr}
use Rattle.std.specs.Prelude.{Option, Some, None, IfSome, IsSome, option_to_list, is_some, if◌then◌else◌}
use Rattle.std.specs.Option.{ForSome, option_map}
use Rattle.std.specs.BTreeMap as tree
use Rattle.std.specs.BTreeSet.{keys}
use Rattle.std.specs.Ordering.{nat_cmp}
use Rattle.std.specs.Cmp.{unsigned_tied}
use Rattle.std.proofs.lemmas.Bool.{eqb-true}
use Rattle.std.proofs.lemmas.List.{append-nil}
use Rattle.std.proofs.lemmas.List.Elements.{All-nil, All-cons}
use Rattle.scp_slot.specs.scp_types.specs.declared.names.NodeId.{NodeId}
use Rattle.scp_slot.specs.scp_types.specs.declared.names.Slot.{Slot}
use Rattle.scp_slot.specs.scp_driver.specs.declared.driver.Level.{Level}
use Rattle.scp_slot.specs.scp_quorum.specs.SharedSet.{SharedSet}
use Rattle.scp_slot.specs.scp_envelope.specs.declared.statement.Envelope.{Envelope as Enveloped}
use Rattle.scp_slot.specs.scp_vote.specs.Board.{kind_of_pledges}
use Rattle.scp_slot.specs.scp_vote.specs.declared.claim.StatementKind.{StatementKind}
use Rattle.scp_pending.specs.scp_wire.specs.declared.message.Message.TheVariants.{Envelope}
use Rattle.scp_slot.specs.scp_ballot.specs.declared.balloted.Certified.{Certified}
use Rattle.scp_slot.specs.scp_ballot.specs.Balloting as ballot
use Rattle.scp_slot.specs.declared.machine.SlotMachine.{SlotMachine}
use Rattle.scp_slot.specs.declared.output.SlotInput.{SlotInput}
use Rattle.scp_slot.specs.declared.output.SlotInput.TheVariants.{Propose, Round, Timer, Envelope as Hear}
use Rattle.scp_slot.specs.declared.output.SlotOutput.{SlotOutput}
use Rattle.scp_slot.specs.Slot.{slot_view, driver_of, IsSound as IsSlotSound, IsRunning as IsSlotRunning}
use Rattle.scp_slot.specs.Takes as slot
use Rattle.scp_ledger.specs.declared.journal.Decision.{Decision}
use Rattle.scp_ledger.specs.declared.journal.Fate.{Fate}
use Rattle.scp_ledger.specs.declared.journal.Fate.TheVariants.{Taken}
use Rattle.scp_ledger.specs.declared.journal.Verdict.{Verdict}
use Rattle.scp_ledger.specs.declared.journal.Verdict.TheVariants.{OldSlot, FarSlot, Already, Unasked, Own, BadStatement, BadValue, Stale, Idle, Fresh, Forwarded, Decided}
use Rattle.scp_ledger.specs.declared.journal.Origin.TheVariants.{Machine}
use Rattle.scp_ledger.specs.declared.state.Entering.{Entering}
use Rattle.scp_ledger.specs.Journal.{Heard, newest, fresh_heard, is_fresh}
use Rattle.scp_ledger.specs.Decisions.{is_decided, IsLowest, IsNext, IsFounded, HasItsDecision}
use Rattle.scp_ledger.specs.Verdicts.{IsOpen, IsStatementVerdict, IsHeardAs, HasItsSet, link_of}
use Rattle.scp_ledger.specs.Seen.{LedgerView, machine_at}
use Rattle.scp_ledger.specs.Ledger.{IsLedger, IsMachineOf, FitsMachine, HasMachines, heard_of, heard_at}
use Rattle.scp_ledger.specs.inside.Entering.{Enters, entries_of}
use Rattle.scp_ledger.specs.Takes.{decision_of, verdict_from, IsMachineFor}
use Rattle.scp_ledger.proofs.Newest.{newest-passed, newest-pushed}
use Rattle.scp_ledger.proofs.Boards.{Stepped, brings, taken_in, judged}
use Rattle.scp_ledger.proofs.Kept.{Hears, hears_elsewhere, Adds, IsLedger-grown, next_open, fits_elsewhere, fits_decided, fits_here, rests_on_machine}

-- ---- what an entry lets be heard

abbrev some_if : Bool → Heard → Option Heard
some_if b h = if b then Some h else None

hears_fate : (j : List Fate) (fate : Fate) (at : ℕ) (h : Heard) (b : Bool) → h.statement.slot.0 ≡ at → fresh_heard fate ≡ some_if b h → Hears j (j ++ fate ∷ []) at (some_if b h)
hears_fate j fate at h true is some = (is, λ slot kind v. newest-pushed slot kind v j fate h some)
hears_fate j fate at h false is none = λ slot kind v. newest-passed slot kind v j fate none

hears_nothing : (j : List Fate) (fates : List Fate) (at : ℕ) → fates ≡ [] → Hears j (j ++ fates) at None
hears_nothing j fates at is = λ slot kind v. ap (λ (fs : List Fate). newest slot kind v fs) (ap (λ (fs : List Fate). j ++ fs) is ∙ append-nil j)

hears_none : (j : List Fate) (entering : Option Entering) (verdict : Verdict) (at : ℕ) → entering ≡ None → Hears j (j ++ entries_of entering verdict) at None
hears_none j entering verdict at is = hears_nothing j (entries_of entering verdict) at (ap (λ (e : Option Entering). entries_of e verdict) is)

pub hears_entry : (j : List Fate) (at : ℕ) (given : SlotInput) (entering : Option Entering) (verdict : Verdict) → Enters given entering → slot.IsOfSlot at given → Hears j (j ++ entries_of entering verdict) at (brings given verdict)
hears_entry j at (Propose value) entering verdict is of_slot = hears_none j entering verdict at is
hears_entry j at Round entering verdict is of_slot = hears_none j entering verdict at is
hears_entry j at Timer entering verdict is of_slot = hears_none j entering verdict at is
hears_entry j at (Hear envelope set) None verdict is of_slot = absurd is
hears_entry j at (Hear envelope set) (Some e) verdict is of_slot =
    let h : Heard = record { statement = envelope.statement; set = set.value } in
    let same : record { statement = e.envelope.value.statement; set = e.set.value } ≡ h = rw (is.0, is.1) refl in
    hears_fate j (Taken e.conn e.seq (Envelope e.envelope) (Some e.set) verdict) at h (is_fresh verdict) of_slot (ap (some_if (is_fresh verdict)) same)

-- ---- entries of envelopes decide nothing, and have their sets

envelope_decides_nothing : (ds : List Decision) (e : Entering) (verdict : Verdict) → HasItsDecision ds (Taken e.conn e.seq (Envelope e.envelope) (Some e.set) verdict)
envelope_decides_nothing ds e OldSlot = tt
envelope_decides_nothing ds e FarSlot = tt
envelope_decides_nothing ds e Already = tt
envelope_decides_nothing ds e Unasked = tt
envelope_decides_nothing ds e Own = tt
envelope_decides_nothing ds e BadStatement = tt
envelope_decides_nothing ds e BadValue = tt
envelope_decides_nothing ds e Stale = tt
envelope_decides_nothing ds e Idle = tt
envelope_decides_nothing ds e Fresh = tt
envelope_decides_nothing ds e Forwarded = tt
envelope_decides_nothing ds e Decided = tt

entries_decide_nothing : (ds : List Decision) (entering : Option Entering) (verdict : Verdict) → All (HasItsDecision ds) (entries_of entering verdict)
entries_decide_nothing ds None verdict = All-nil (HasItsDecision ds)
entries_decide_nothing ds (Some e) verdict =
    All-cons (HasItsDecision ds) (Taken e.conn e.seq (Envelope e.envelope) (Some e.set) verdict) [] (envelope_decides_nothing ds e verdict) (All-nil (HasItsDecision ds))

no_entries : (verdict : Verdict) (entering : Option Entering) → entering ≡ None → All HasItsSet (entries_of entering verdict)
no_entries verdict entering none = subst (λ (e : Option Entering). All HasItsSet (entries_of e verdict)) (sym none) (All-nil HasItsSet)

pub entries_have_sets : (given : SlotInput) (entering : Option Entering) (verdict : Verdict) → Enters given entering → All HasItsSet (entries_of entering verdict)
entries_have_sets (Propose value) entering verdict is = no_entries verdict entering is
entries_have_sets Round entering verdict is = no_entries verdict entering is
entries_have_sets Timer entering verdict is = no_entries verdict entering is
entries_have_sets (Hear envelope set) None verdict is = absurd is
entries_have_sets (Hear envelope set) (Some e) verdict is = All-cons HasItsSet (Taken e.conn e.seq (Envelope e.envelope) (Some e.set) verdict) [] is.2 (All-nil HasItsSet)

-- ---- the run

other_slot : (at slot : ℕ) (ds : List Decision) → is_decided at ds ≡ false → is_decided slot ds ≡ true → nat_eq at slot ≡ false
other_slot at slot ds out' in' = by_test (nat_eq at slot) refl
  where
    by_test : (b : Bool) → nat_eq at slot ≡ b → b ≡ false
    by_test true is = absurd (let s : at ≡ slot = eqb-true at slot is in let t : true ≡ false = sym in' ∙ ap (λ (n : ℕ). is_decided n ds) (sym s) ∙ out' in cc)
    by_test false is = refl

at_slot : (at : Slot) (o : Option Certified) → IfSome (decision_of at o) (λ d. d.slot.0 ≡ at.0)
at_slot at None = tt
at_slot at (Some c) = refl

next_of : (first : ℕ) (ds : List Decision) (lowest : ℕ) (at : Slot) (o : Option Certified) → IsLowest first ds lowest → IsOpen lowest ds at.0 → IfSome (decision_of at o) (IsNext first ds)
next_of first ds lowest at None low is = tt
next_of first ds lowest at (Some c) low is = next_open first ds lowest (record { slot = at; value = c.value; origin = Machine c.n (keys c.quorum) c.own }) low is

pub at_is : (a b : ℕ) → tree.is_at (nat_cmp a) b ≡ true → a ≡ b
at_is a b e = eqb-true a b (sym (unsigned_tied a b) ∙ e)

-- an input of the machine of an open slot, as the ledger's lemmas take it
pub record Runs {D : Type 0} (level : D → ℕ → List ℕ → Level) (place : D → ℕ → ℕ → ℕ → ℕ) (old : LedgerView D) (at : Slot) (given : SlotInput) (out : SlotOutput) (m n : SlotMachine D) : Type 0 where
  pub is_open : IsOpen old.lowest old.decisions at.0
  pub low : IsLowest old.first old.decisions old.lowest
  pub machine : IsMachineOf level place old.me old.local old.driver old.journal old.decisions at.0 m
  pub step : Stepped given (slot_view m) out (slot_view n)
  pub decides : slot.Decides (slot_view m) out (slot_view n)
  pub running : IsSlotRunning (slot_view n)
  pub sound : IsSlotSound level place n
  pub same_driver : driver_of n ≡ driver_of m

module _ {D : Type 0} (level : D → ℕ → List ℕ → Level) (place : D → ℕ → ℕ → ℕ → ℕ) where
  certified_of : (o : Option Certified) (c : Certified) (P : Certified → Type 0) → o ≡ Some c → ForSome o P → P c
  certified_of o c P is h = h c is

  ground : (old new : LedgerView D) (at : Slot) (given : SlotInput) (out : SlotOutput) (m n : SlotMachine D) → Runs level place old at given out m n → Hears old.journal new.journal at.0 (brings given (verdict_from out.verdict)) → (o : Option Certified) → out.decided ≡ o → IfSome (decision_of at o) (λ d. IsFounded old.me old.local (link_of old.peers) new.asked new.journal d)
  ground old new at given out m n r hs None is = tt
  ground old new at given out m n r hs (Some c) is =
      rests_on_machine level place old.me old.local old.driver (link_of old.peers) new.asked old.journal new.journal old.decisions at given out m n c r.machine r.step r.running hs (subst IsSome (sym is) refl) (certified_of out.decided c (λ d. ballot.IsCertified (slot_view n).ballots d) is r.decides.certified)

  pub ledger_ran : (old new : LedgerView D) (at : Slot) (given : SlotInput) (out : SlotOutput) (m n : SlotMachine D) (entering : Option Entering) → IsLedger old → Runs level place old at given out m n → Enters given entering → slot.IsOfSlot at.0 given
      → Adds old new (entries_of entering (verdict_from out.verdict)) (decision_of at out.decided) → IsLedger new
  ledger_ran old new at given out m n entering h r enters of_slot adds =
      let verdict = verdict_from out.verdict in
      let hs : Hears old.journal new.journal at.0 (brings given verdict) = subst (λ (fs : List Fate). Hears old.journal fs at.0 (brings given verdict)) (sym adds.journal) (hears_entry old.journal at.0 given entering verdict enters of_slot) in
      IsLedger-grown old new (entries_of entering verdict) (decision_of at out.decided) h adds
      (λ s in' kind v. hears_elsewhere old.journal new.journal at.0 (brings given verdict) hs s kind v (other_slot at.0 s old.decisions r.is_open.undecided in'))
      (next_of old.first old.decisions old.lowest at out.decided r.low r.is_open)
      (ground old new at given out m n r hs out.decided refl)
      (entries_decide_nothing new.decisions entering verdict)

  fits_at : (old : LedgerView D) (newj : List Fate) (at : Slot) (given : SlotInput) (out : SlotOutput) (m n : SlotMachine D) → Runs level place old at given out m n → Hears old.journal newj at.0 (brings given (verdict_from out.verdict)) → (o : Option Certified) → out.decided ≡ o
      → FitsMachine level place old.me old.local old.driver newj (old.decisions ++ option_to_list (decision_of at o)) at.0 (cond (is_some o) None (Some n))
  fits_at old newj at given out m n r hs None none =
      subst (λ (ds : List Decision). IsMachineOf level place old.me old.local old.driver newj ds at.0 n) (sym (append-nil old.decisions)) (fits_here level place old.me old.local old.driver old.journal newj old.decisions at.0 given out m n r.machine r.step r.decides r.running r.sound r.same_driver hs none)
  fits_at old newj at given out m n r hs (Some c) some = fits_decided level place old.me old.local old.driver newj at.0 old.decisions (record { slot = at; value = c.value; origin = Machine c.n (keys c.quorum) c.own }) refl

  fits_all : (old : LedgerView D) (newj : List Fate) (at : Slot) (given : SlotInput) (out : SlotOutput) (m n : SlotMachine D) → Runs level place old at given out m n → Hears old.journal newj at.0 (brings given (verdict_from out.verdict)) → HasMachines level place old
      → (s : ℕ) (b : Bool) → tree.is_at (nat_cmp at.0) s ≡ b → FitsMachine level place old.me old.local old.driver newj (old.decisions ++ option_to_list (decision_of at out.decided)) s (cond b (cond (is_some out.decided) None (Some n)) (machine_at old.machines s))
  fits_all old newj at given out m n r hs fits s true e =
      subst (λ (x : ℕ). FitsMachine level place old.me old.local old.driver newj (old.decisions ++ option_to_list (decision_of at out.decided)) x (cond (is_some out.decided) None (Some n))) (at_is at.0 s e) (fits_at old newj at given out m n r hs out.decided refl)
  fits_all old newj at given out m n r hs fits s false e =
      fits_elsewhere level place old.me old.local old.driver old.journal newj at.0 (brings given (verdict_from out.verdict)) old.decisions (decision_of at out.decided) s (machine_at old.machines s) hs (at_slot at out.decided) (sym (unsigned_tied at.0 s) ∙ e) (fits s)

  pub machines_ran : (old new : LedgerView D) (at : Slot) (given : SlotInput) (out : SlotOutput) (m n : SlotMachine D) (entering : Option Entering) → HasMachines level place old → Runs level place old at given out m n → Enters given entering → slot.IsOfSlot at.0 given
      → new.driver ≡ old.driver → Adds old new (entries_of entering (verdict_from out.verdict)) (decision_of at out.decided) → ((s : ℕ) → machine_at new.machines s ≡ cond (tree.is_at (nat_cmp at.0) s) (cond (is_some out.decided) None (Some n)) (machine_at old.machines s)) → HasMachines level place new
  machines_ran old new at given out m n entering fits r enters of_slot driver adds machines =
      let verdict = verdict_from out.verdict in
      let newj = old.journal ++ entries_of entering verdict in
      let hs : Hears old.journal newj at.0 (brings given verdict) = hears_entry old.journal at.0 given entering verdict enters of_slot in
      rw (adds.me, adds.local, driver, adds.journal, adds.decisions) (λ s. subst (λ (o : Option (SlotMachine D)). FitsMachine level place old.me old.local old.driver newj (old.decisions ++ option_to_list (decision_of at out.decided)) s o) (sym (machines s)) (fits_all old newj at given out m n r hs fits s (tree.is_at (nat_cmp at.0) s) refl))

-- ---- the machine's verdict is the journal's

-- what the verdict on an envelope needs to know of the machine of its slot
pub record Knows {D : Type 0} (old : LedgerView D) (at : ℕ) (m : SlotMachine D) : Type 0 where
  pub node : (slot_view m).me ≡ old.me
  pub slot : (slot_view m).slot ≡ at
  pub its_driver : driver_of m ≡ old.driver
  pub board : (kind : StatementKind) (v : NodeId) → heard_at kind (slot_view m) v ≡ newest at kind v old.journal
  pub silent : (slot_view m).decided ≡ false

pub knows : {D : Type 0} (level : D → ℕ → List ℕ → Level) (place : D → ℕ → ℕ → ℕ → ℕ) (old : LedgerView D) (at : Slot) (o : Option (SlotMachine D)) (m : SlotMachine D) → is_decided at.0 old.decisions ≡ false → FitsMachine level place old.me old.local old.driver old.journal old.decisions at.0 o → IsMachineFor old at o m → Knows old at.0 m
knows level place old at None m undecided nothing b = record {
  node = b.0.me;
  slot = b.0.slot;
  its_driver = b.1;
  board = λ kind v. ap (option_map heard_of) (b.0.newest kind v) ∙ sym (nothing undecided kind v);
  silent = b.0.decided;
}
knows level place old at (Some there) m undecided is same = subst (Knows old at.0) (sym same) (record { node = is.node; slot = is.slot; its_driver = is.its_driver; board = is.board; silent = is.silent })

pub statement_verdict : {D : Type 0} (level : D → ℕ → List ℕ → Level) (combined : List (List ℕ) → List ℕ) (old : LedgerView D) (m n : SlotMachine D) (e : Enveloped) (set : SharedSet) (out : SlotOutput)
    → IsOpen old.lowest old.decisions e.statement.slot.0 → Knows old e.statement.slot.0 m → slot.Takes (level (driver_of m) (slot_view m).slot) combined (Hear e set) (slot_view m) out (slot_view n) → IsStatementVerdict level old e.statement (verdict_from out.verdict)
statement_verdict {D} level combined old m n e set out is machine takes =
    let s = e.statement in
    let kind = kind_of_pledges s.pledges in
    let verdict = verdict_from out.verdict in
    let on_board = judged (level (driver_of m) (slot_view m).slot) combined e set (slot_view m) out (slot_view n) (taken_in (level (driver_of m) (slot_view m).slot) combined (Hear e set) (slot_view m) out (slot_view n) machine.silent takes) in
    let a : IsHeardAs (level old.driver (slot_view m).slot) (slot_view m).me (heard_at kind (slot_view m) s.node) s verdict = subst (λ (d : D). IsHeardAs (level d (slot_view m).slot) (slot_view m).me (heard_at kind (slot_view m) s.node) s verdict) machine.its_driver on_board in
    let b : IsHeardAs (level old.driver s.slot.0) (slot_view m).me (heard_at kind (slot_view m) s.node) s verdict = subst (λ (k : ℕ). IsHeardAs (level old.driver k) (slot_view m).me (heard_at kind (slot_view m) s.node) s verdict) machine.slot a in
    let c : IsHeardAs (level old.driver s.slot.0) old.me (heard_at kind (slot_view m) s.node) s verdict = subst (λ (x : NodeId). IsHeardAs (level old.driver s.slot.0) x (heard_at kind (slot_view m) s.node) s verdict) machine.node b in
    let d : IsHeardAs (level old.driver s.slot.0) old.me (newest s.slot.0 kind s.node old.journal) s verdict = subst (λ (o : Option Heard). IsHeardAs (level old.driver s.slot.0) old.me o s verdict) (machine.board kind s.node) c in
    inr ((λ lt. let le = is.not_old in omega (arith, lt, le)), inr (is.not_far, inr ((λ now. let t : true ≡ false = sym now ∙ is.undecided in cc), d)))
