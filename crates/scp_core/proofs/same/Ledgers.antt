-- Of ledgers that show the same, which take the same thing.
use Rattle.std.proofs.Common.{◌≡◌, ◌≢◌, ℕ, ◌<◌, ◌≤◌, Bool, true, false, cond, List, [], ◌∷◌, ◌++◌, length, refl, sym, ◌∙◌, ap, subst, inl, inr, arith}
use Rattle.std.specs.Prelude.{◌⊎◌, Option, Some, None, IsSome, IsSomeAnd, is_some, option_map, option_to_list, map}
use Rattle.std.specs.BTreeMap as tree
use Rattle.std.specs.Ordering.{nat_cmp}
use Rattle.std.proofs.lemmas.Bool.{cases_lt}
use Rattle.std.proofs.lemmas.List.{map-append}
use Rattle.scp_theorem.specs.scp_types.specs.declared.names.ConnId.{ConnId}
use Rattle.scp_theorem.specs.scp_types.specs.declared.names.NodeId.{NodeId}
use Rattle.scp_theorem.specs.scp_types.specs.declared.names.Seq.{Seq}
use Rattle.scp_theorem.specs.scp_types.specs.declared.names.Slot.{Slot}
use Rattle.scp_theorem.specs.scp_quorum.specs.QuorumTree.{QuorumTree}
use Rattle.scp_theorem.specs.scp_quorum.specs.SharedSet.{SharedSet}
use Rattle.scp_theorem.specs.scp_quorum.specs.Sane.{IsInRange}
use Rattle.scp_theorem.specs.scp_driver.specs.declared.driver.Level.{Level}
use Rattle.scp_theorem.specs.scp_driver.specs.declared.driver.Level.TheVariants.{FullyValidated}
use Rattle.scp_theorem.specs.scp_vote.specs.Board.{kind_of_pledges}
use Rattle.scp_theorem.specs.scp_vote.specs.declared.claim.StatementKind.TheVariants.{Nomination as Nominating}
use Rattle.scp_theorem.specs.scp_wire.specs.Boxed.{Boxed}
use Rattle.scp_theorem.specs.scp_wire.specs.declared.link.Command.{Command}
use Rattle.scp_theorem.specs.scp_wire.specs.declared.link.Command.TheVariants.{Propose, Round, Timer, Tick, Ask}
use Rattle.scp_theorem.specs.scp_wire.specs.declared.message.Message.{Message}
use Rattle.scp_theorem.specs.scp_wire.specs.declared.message.Message.TheVariants.{Envelope, GetSet, Set, NoSet, GetRecord, Record, Records}
use Rattle.scp_theorem.specs.scp_pending.specs.declared.ready.Ready.{Ready}
use Rattle.scp_theorem.specs.scp_pending.specs.declared.ready.Ready.TheVariants as ready
use Rattle.scp_theorem.specs.scp_nominate.specs.Nomination.{Nomination}
use Rattle.scp_theorem.specs.scp_ballot.specs.Balloting.{HasBallot}
use Rattle.scp_theorem.specs.scp_slot.specs.Slot.{SlotView, slot_view, driver_of, Begins}
use Rattle.scp_theorem.specs.scp_slot.specs.declared.machine.SlotMachine.{SlotMachine}
use Rattle.scp_theorem.specs.scp_slot.specs.declared.newest.Heard.{Heard as Kept}
use Rattle.scp_theorem.specs.scp_slot.specs.declared.output.SlotInput.{SlotInput}
use Rattle.scp_theorem.specs.scp_slot.specs.declared.output.SlotInput.TheVariants as input
use Rattle.scp_theorem.specs.scp_slot.specs.declared.output.SlotOutput.{SlotOutput}
use Rattle.scp_theorem.specs.scp_ledger.specs.declared.journal.Asking.{Asking}
use Rattle.scp_theorem.specs.scp_ledger.specs.declared.journal.Decision.{Decision}
use Rattle.scp_theorem.specs.scp_ledger.specs.declared.journal.Fate.{Fate}
use Rattle.scp_theorem.specs.scp_ledger.specs.declared.journal.Fate.TheVariants.{Taken}
use Rattle.scp_theorem.specs.scp_ledger.specs.declared.journal.Verdict.{Verdict}
use Rattle.scp_theorem.specs.scp_ledger.specs.declared.journal.Verdict.TheVariants.{OldSlot, FarSlot, Already, Unasked, Idle, Fresh, Forwarded, Decided as Deciding}
use Rattle.scp_theorem.specs.scp_ledger.specs.declared.took.CommandFate.{CommandFate}
use Rattle.scp_theorem.specs.scp_ledger.specs.declared.took.CommandFate.TheVariants.{BadValue, ProposedBefore, Proposed, NoRoundLeft, RoundAdded, NoBallot, BallotStays, BallotMoved}
use Rattle.scp_theorem.specs.scp_ledger.specs.declared.took.Outgoing.{Outgoing}
use Rattle.scp_theorem.specs.scp_ledger.specs.declared.took.Took.{Took}
use Rattle.scp_theorem.specs.scp_ledger.specs.CommandFates.{BeforeMachine, ByMachine, IsProposalFate, IsRoundFate, IsTimerFate, IsAskFate, TellsCommand, TellsFate}
use Rattle.scp_theorem.specs.scp_ledger.specs.Decisions.{is_decided, IsLowest}
use Rattle.scp_theorem.specs.scp_ledger.specs.Journal.{newest}
use Rattle.scp_theorem.specs.scp_ledger.specs.Journals.{Entry}
use Rattle.scp_theorem.specs.scp_ledger.specs.Ledger.{heard_of, IsMachineOf, FitsMachine, IsRunning}
use Rattle.scp_theorem.specs.scp_ledger.specs.Seen.{LedgerView, machine_at, is_asked, asking_cmp}
use Rattle.scp_theorem.specs.scp_ledger.specs.Takes.{IsMachineFor, decision_of, decided_onward, to_peers, verdict_from, RunsAt, Passes, TakesEnvelope, Decides, TakesRecord, Forwards, TakesMessage, Commands, Asks, TakesAsk, TakesCommand, Takes}
use Rattle.scp_theorem.specs.scp_ledger.specs.Verdicts.{FirstOf, IsFar, BehindWindow, IsHeardAs, BehindAlready, IsOpen, link_of}
use Rattle.scp_core.specs.Same.{ShowSameSlot, ShowSameMachine, said, ShowSameLedger}
use Rattle.scp_core.proofs.same.Ones.{cases_one, some_one}
use Rattle.scp_core.proofs.same.Nominating.{nomination_begins}
use Rattle.scp_core.proofs.same.Balloting.{ballots_begin}
use Rattle.scp_core.proofs.same.Machines.{SlotLaws, SameInput}
use Rattle.scp_core.proofs.same.Slots.{Knows, machine_one}

-- ---- the lowest undecided slot, and which slots are open

lowest_one : (first : ℕ) (ds : List Decision) (a b : ℕ) → IsLowest first ds a → IsLowest first ds b → a ≡ b
lowest_one first ds a b x y = elim (cases_lt a b) [
  | inl below ↦ absurd (not_both (sym x.undecided ∙ y.decided a x.from_first below))
  | inr above ↦ elim (cases_lt b a) [
    | inl below ↦ absurd (not_both (sym y.undecided ∙ x.decided b y.from_first below))
    | inr same ↦ omega (arith, above, same)
  ]
]
  where
    not_both : false ≡ true → ⊥
    not_both e = cc

isnt_true : (b : Bool) → (b ≡ true → ⊥) → b ≡ false
isnt_true true h = absurd (h refl)
isnt_true false h = refl

-- of answers of which each is the first that fits
first_one : {V : Type 0} (P Q : Type 0) (first : V) (L M : Type 0) (a b : V) → ((P × (a ≡ first)) ⊎ ((¬ P) × L)) → ((Q × (b ≡ first)) ⊎ ((¬ Q) × M)) → (P → Q) → (Q → P) → ((¬ P) → L → M → a ≡ b) → a ≡ b
first_one P Q first L M a b x y to from rest = cases_one P Q (a ≡ first) L (b ≡ first) M x y to from (λ _ e f. e ∙ sym f) rest

not_less : (a b : ℕ) → ((a < b) → ⊥) → b ≤ a
not_less a b h = elim (cases_lt a b) [
  | inl less ↦ absurd (h less)
  | inr le ↦ le
]

-- a slot that isn't open is reported so in one way
gate_one : (lowest : ℕ) (ds : List Decision) (slot : ℕ) (later other : Verdict → Type 0) (a b : Verdict) → (IsOpen lowest ds slot → later a → other b → a ≡ b) → BehindWindow lowest ds slot later a → BehindWindow lowest ds slot other b → a ≡ b
gate_one lowest ds slot later other a b rest x y =
    first_one (slot < lowest) (slot < lowest) OldSlot _ _ a b x y (λ p. p) (λ p. p) (λ not_old x2 y2.
    first_one (IsFar lowest slot) (IsFar lowest slot) FarSlot _ _ a b x2 y2 (λ p. p) (λ p. p) (λ not_far x3 y3.
    first_one (is_decided slot ds ≡ true) (is_decided slot ds ≡ true) Already _ _ a b x3 y3 (λ p. p) (λ p. p)
    (λ fresh. rest (record { not_old = not_less slot lowest not_old; not_far = not_far; undecided = isnt_true (is_decided slot ds) fresh }))))

gate_shut : (lowest : ℕ) (ds : List Decision) (slot : ℕ) (a : Verdict) → BehindWindow lowest ds slot (λ _. ⊥) a → IsOpen lowest ds slot → ⊥
gate_shut lowest ds slot a x is = elim x [
  | inl p ↦ omega (arith, p.0, is.not_old)
  | inr p ↦ elim p.1 [
    | inl q ↦ is.not_far q.0
    | inr q ↦ elim q.1 [
      | inl r ↦ both (sym is.undecided ∙ r.0)
      | inr r ↦ r.1
    ]
  ]
]
  where
    both : false ≡ true → ⊥
    both e = cc

-- what comes before asks are looked up
already_one : (lowest : ℕ) (ds : List Decision) (slot : ℕ) (later other : Verdict → Type 0) (a b : Verdict) → (later a → other b → a ≡ b) → BehindAlready lowest ds slot later a → BehindAlready lowest ds slot other b → a ≡ b
already_one lowest ds slot later other a b rest x y =
    first_one ((is_decided slot ds ≡ true) ⊎ (slot < lowest)) ((is_decided slot ds ≡ true) ⊎ (slot < lowest)) Already _ _ a b x y (λ p. p) (λ p. p) (λ _ x2 y2.
    first_one (IsFar lowest slot) (IsFar lowest slot) FarSlot _ _ a b x2 y2 (λ p. p) (λ p. p) (λ _. rest))

-- what comes before a machine tells of a command
before_one : (lowest : ℕ) (ds : List Decision) (slot : ℕ) (later other : CommandFate → Type 0) (a b : CommandFate) → (later a → other b → a ≡ b) → BeforeMachine lowest ds slot later a → BeforeMachine lowest ds slot other b → a ≡ b
before_one lowest ds slot later other a b rest x y =
    first_one (slot < lowest) (slot < lowest) _ _ _ a b x y (λ p. p) (λ p. p) (λ _ x2 y2.
    first_one (IsFar lowest slot) (IsFar lowest slot) _ _ _ a b x2 y2 (λ p. p) (λ p. p) (λ _ x3 y3.
    first_one (is_decided slot ds ≡ true) (is_decided slot ds ≡ true) _ _ _ a b x3 y3 (λ p. p) (λ p. p) (λ _. rest)))

both_there : {X : Type 0} (a b : Option X) (P Q : X → Type 0) → IsSomeAnd a P → IsSomeAnd b Q → ((x y : X) → P x → Q y → x ≡ y) → a ≡ b
both_there None b P Q x y one = absurd x
both_there (Some p) None P Q x y one = absurd y
both_there (Some p) (Some q) P Q x y one = ap Some (one p q x y)

-- what a machine at a slot lets be reported
abbrev by_proposal : SlotView → CommandFate → Type 0
by_proposal m fate = FirstOf (IsSome m.nomination.proposal) ProposedBefore (λ f. f ≡ Proposed) fate

abbrev by_round : SlotView → CommandFate → Type 0
by_round m fate = FirstOf (length m.nomination.nodes ≤ m.nomination.rounds) NoRoundLeft (λ f. f ≡ RoundAdded) fate

abbrev by_timer : SlotView → CommandFate → Type 0
by_timer m fate = FirstOf (¬ (HasBallot m.ballots)) NoBallot (λ f. f ≡ BallotStays) fate

-- ---- machines

begin_one : (node : NodeId) (number : ℕ) (set : QuorumTree) (u z : SlotView) → Begins node number set u → Begins node number set z → ShowSameSlot u z
begin_one node number set u z x y = record {
  me = x.me ∙ sym y.me;
  slot = x.slot ∙ sym y.slot;
  nomination = nomination_begins node number set u.nomination z.nomination x.nomination y.nomination;
  ballots = ballots_begin node number set u.ballots z.ballots x.ballots y.ballots x.blank y.blank;
  heard = λ kind n. ap (option_map heard_of) (x.newest kind n ∙ sym (y.newest kind n));
  decided = x.decided ∙ sym y.decided;
  more = x.more ∙ sym y.more;
}

-- what came of one thing in two ledgers
pub record SameTook {D : Type 0} (t s : Took) (v w : LedgerView D) : Type 0 where
  pub verdict : t.verdict ≡ s.verdict
  pub onward : t.onward ≡ s.onward
  pub outgoing : t.outgoing ≡ s.outgoing
  pub view : ShowSameLedger v w

-- the same ledger, but for where sets lie, for machines, and for the order of what was asked
abbrev pub beside : {D : Type 0} → LedgerView D → List Fate → List Asking → List (ℕ × SlotMachine D) → LedgerView D
beside v j a ms = record v { journal = j; asked = a; machines = ms }

module _ {D : Type 0} (level : D → ℕ → List ℕ → Level) (extracted : D → ℕ → List ℕ → Option (List ℕ)) (combined : D → ℕ → List (List ℕ) → List ℕ) (place : D → ℕ → ℕ → ℕ → ℕ) (law : SlotLaws D)
    (v : LedgerView D) (j : List Fate) (os : List Asking) (ms : List (ℕ × SlotMachine D)) (journal : map said v.journal ≡ map said j) (asked : (a : Asking) → is_asked v.asked a ≡ is_asked os a) (machines : (s : ℕ) → ShowSameMachine (machine_at v.machines s) (machine_at ms s)) where
  abbrev w : LedgerView D
  w = beside v j os ms

  said_more : (fs gs : List Fate) → map said fs ≡ map said gs → map said (v.journal ++ fs) ≡ map said (j ++ gs)
  said_more fs gs e = map-append said v.journal fs ∙ ap (λ xs. xs ++ map said fs) journal ∙ ap (λ ys. map said j ++ ys) e ∙ sym (map-append said j gs)

  passed : (fs gs : List Fate) (t s : LedgerView D) → map said fs ≡ map said gs → t ≡ record v { journal = v.journal ++ fs } → s ≡ record w { journal = j ++ gs } → ShowSameLedger t s
  passed fs gs t s e x y =
      subst (λ (u : LedgerView D). ShowSameLedger u s) (sym x) (subst (λ (u : LedgerView D). ShowSameLedger (record v { journal = v.journal ++ fs }) u) (sym y)
      (record { me = refl; local = refl; driver = refl; peers = refl; first = refl; failed = refl; journal = said_more fs gs e; decisions = refl; lowest = refl; asked = asked; machines = machines }))

  passes_one : (a b : Option Verdict) (fs gs : List Fate) (t s : Took) (v2 w2 : LedgerView D) → a ≡ b → map said fs ≡ map said gs → Passes v a fs t v2 → Passes w b gs s w2 → SameTook t s v2 w2
  passes_one a b fs gs t s v2 w2 same e x y = record { verdict = x.verdict ∙ same ∙ sym y.verdict; onward = x.onward ∙ sym y.onward; outgoing = x.outgoing ∙ sym y.outgoing; view = passed fs gs v2 w2 e x.same y.same }

  start_one : (at : Slot) (o p : Option (SlotMachine D)) (m k : SlotMachine D) → ShowSameMachine o p → IsMachineFor v at o m → IsMachineFor w at p k → (driver_of m ≡ driver_of k) × ShowSameSlot (slot_view m) (slot_view k)
  start_one at None None m k h x y = (x.1 ∙ sym y.1, begin_one v.me at.0 v.local (slot_view m) (slot_view k) x.0 y.0)
  start_one at None (Some q) m k h x y = absurd h
  start_one at (Some p) None m k h x y = absurd h
  start_one at (Some p) (Some q) m k h x y = subst (λ (z : SlotMachine D). (driver_of z ≡ driver_of k) × ShowSameSlot (slot_view z) (slot_view k)) (sym x) (subst (λ (z : SlotMachine D). (driver_of p ≡ driver_of z) × ShowSameSlot (slot_view p) (slot_view z)) (sym y) h)

  -- which machine is there afterwards
  stands_one : (b c : Bool) (m k : SlotMachine D) (o p : Option (SlotMachine D)) → (driver_of m ≡ driver_of k) × ShowSameSlot (slot_view m) (slot_view k) → ShowSameMachine o p → ShowSameMachine (cond b (cond c None (Some m)) o) (cond b (cond c None (Some k)) p)
  stands_one true true m k o p new old = tt
  stands_one true false m k o p new old = new
  stands_one false c m k o p new old = old

  gone_one : (b : Bool) (o p : Option (SlotMachine D)) → ShowSameMachine o p → ShowSameMachine (cond b None o) (cond b None p)
  gone_one true o p h = tt
  gone_one false o p h = h

  moved : (o p q r : Option (SlotMachine D)) → o ≡ q → p ≡ r → ShowSameMachine q r → ShowSameMachine o p
  moved o p q r x y h = subst (λ (z : Option (SlotMachine D)). ShowSameMachine z p) (sym x) (subst (λ (z : Option (SlotMachine D)). ShowSameMachine q z) (sym y) h)

  module _ (running : IsRunning level place v) (range : IsInRange v.local) where
    knows_one : (at : Slot) (o : Option (SlotMachine D)) → machine_at v.machines at.0 ≡ o → (m : SlotMachine D) → IsMachineFor v at o m → Knows (slot_view m)
    knows_one at None e m x =
        let b = x.0 in
        record {
          me = b.nomination.me ∙ sym b.me;
          shows = λ u ne. b.nomination.statements u ∙ sym (ap (option_map (λ (h : Kept). h.statement.pledges)) (b.newest Nominating u));
          range = subst IsInRange (sym b.nomination.local) range;
        }
    knows_one at (Some there) e m x =
        let f : IsMachineOf level place v.me v.local v.driver v.journal v.decisions at.0 there = subst (λ (o : Option (SlotMachine D)). FitsMachine level place v.me v.local v.driver v.journal v.decisions at.0 o) e (running.machines at.0) in
        subst (λ (z : SlotMachine D). Knows (slot_view z)) (sym x) (record { me = f.running.me; shows = f.running.nominations.statements; range = subst IsInRange (sym f.set ∙ f.running.local) range })

    runs_one : (at : Slot) (g h : SlotInput) (fs gs : List Fate) (t s : Took) (v2 w2 : LedgerView D) → SameInput g h → (x : RunsAt level extracted combined place v at g fs t v2) → (y : RunsAt level extracted combined place w at h gs s w2) → (x.out ≡ y.out → map said fs ≡ map said gs) → IsLowest v2.first v2.decisions v2.lowest → IsLowest w2.first w2.decisions w2.lowest → SameTook t s v2 w2
    runs_one at g h fs gs t s v2 w2 same x y fates low low2 =
        let before = start_one at (machine_at v.machines at.0) (machine_at ms at.0) x.before y.before (machines at.0) x.machine y.machine in
        let one = machine_one level extracted combined place law x.before y.before x.after y.after g h x.out y.out same before.0 before.1 (knows_one at (machine_at v.machines at.0) refl x.before x.machine)
        (record { takes = x.takes; decides = x.decides; driver = x.driver; nominates = x.nominates; ascends = x.ascending })
        (record { takes = y.takes; decides = y.decides; driver = y.driver; nominates = y.nominates; ascends = y.ascending }) in
        let first : v2.first ≡ w2.first = ap (λ (u : LedgerView D). u.first) x.same ∙ sym (ap (λ (u : LedgerView D). u.first) y.same) in
        let decisions : v2.decisions ≡ w2.decisions = x.decisions ∙ ap (λ (o : SlotOutput). v.decisions ++ option_to_list (decision_of at o.decided)) one.out ∙ sym y.decisions in
        let now : (driver_of x.after ≡ driver_of y.after) × ShowSameSlot (slot_view x.after) (slot_view y.after) = (x.driver ∙ before.0 ∙ sym y.driver, one.view) in
        record {
          verdict = x.verdict ∙ ap (λ (o : SlotOutput). Some (verdict_from o.verdict)) one.out ∙ sym y.verdict;
          onward = x.onward ∙ ap (λ (o : SlotOutput). option_map decided_onward (decision_of at o.decided)) one.out ∙ sym y.onward;
          outgoing = x.outgoing ∙ ap (λ (o : SlotOutput). to_peers o.emitted) one.out ∙ sym y.outgoing;
          view = record {
            me = ap (λ (u : LedgerView D). u.me) x.same ∙ sym (ap (λ (u : LedgerView D). u.me) y.same);
            local = ap (λ (u : LedgerView D). u.local) x.same ∙ sym (ap (λ (u : LedgerView D). u.local) y.same);
            driver = ap (λ (u : LedgerView D). u.driver) x.same ∙ sym (ap (λ (u : LedgerView D). u.driver) y.same);
            peers = ap (λ (u : LedgerView D). u.peers) x.same ∙ sym (ap (λ (u : LedgerView D). u.peers) y.same);
            first = first;
            failed = ap (λ (u : LedgerView D). u.failed) x.same ∙ sym (ap (λ (u : LedgerView D). u.failed) y.same);
            journal = ap (map said) x.journal ∙ said_more fs gs (fates one.out) ∙ sym (ap (map said) y.journal);
            decisions = decisions;
            lowest = lowest_one v2.first v2.decisions v2.lowest w2.lowest low (subst (λ (ds : List Decision). IsLowest v2.first ds w2.lowest) (sym decisions) (subst (λ (n : ℕ). IsLowest n w2.decisions w2.lowest) (sym first) low2));
            asked = λ a. ap (λ (u : LedgerView D). is_asked u.asked a) x.same ∙ asked a ∙ sym (ap (λ (u : LedgerView D). is_asked u.asked a) y.same);
            machines = λ q. moved (machine_at v2.machines q) (machine_at w2.machines q) _ _ (x.machines q) (y.machines q ∙ ap (λ (o : SlotOutput). cond (tree.is_at (nat_cmp at.0) q) (cond (is_some o.decided) None (Some y.after)) (machine_at ms q)) (sym one.out))
                (stands_one (tree.is_at (nat_cmp at.0) q) (is_some x.out.decided) x.after y.after (machine_at v.machines q) (machine_at ms q) now (machines q));
          };
        }

    module _ (t s : Took) (v2 w2 : LedgerView D) (low : IsLowest v2.first v2.decisions v2.lowest) (low2 : IsLowest w2.first w2.decisions w2.lowest) where
      envelope_one : (conn : ConnId) (seq : Seq) (e : Boxed) (set : Option QuorumTree) → TakesEnvelope level extracted combined place v conn seq e set t v2 → TakesEnvelope level extracted combined place w conn seq e set s w2 → SameTook t s v2 w2
      envelope_one conn seq e set x y =
          let sets : x.0.value ≡ y.0.value = some_one x.0.value y.0.value (sym x.1 ∙ y.1) in
          let at = e.value.statement.slot in
          let heard_by : List Fate → Verdict → Type 0 = λ fates. IsHeardAs (level v.driver at.0) v.me (newest at.0 (kind_of_pledges e.value.statement.pledges) e.value.statement.node fates) e.value.statement in
          let entry : x.2 ≡ y.2 → map said (Taken conn seq (Envelope e) (Some x.0) x.2 ∷ []) ≡ map said (Taken conn seq (Envelope e) (Some y.0) y.2 ∷ []) = λ verdict i. (Entry.taken conn seq (Envelope e) (Some (sets i)), verdict i ∷ []) ∷ [] in
          elim x.5 [
            | inl p ↦ elim y.5 [
              | inl q ↦ (
                  let verdict : x.2 ≡ y.2 = gate_one v.lowest v.decisions at.0 (heard_by v.journal) (heard_by j) x.2 y.2 (λ is. absurd (p.0 is)) x.3 y.3 in
                  passes_one (Some x.2) (Some y.2) _ _ t s v2 w2 (ap Some verdict) (entry verdict) p.1 q.1)
              | inr q ↦ absurd (p.0 q.2.is_open)
            ]
            | inr p ↦ elim y.5 [
              | inl q ↦ absurd (q.0 p.2.is_open)
              | inr q ↦ runs_one at (input.Envelope e.value p.0) (input.Envelope e.value q.0) _ _ t s v2 w2 (q.0, refl, p.1 ∙ sets ∙ sym q.1) p.2 q.2
                  (λ out. entry (some_one x.2 (verdict_from p.2.out.verdict) (sym x.4 ∙ p.2.verdict) ∙ ap (λ (o : SlotOutput). verdict_from o.verdict) out ∙ sym (some_one y.2 (verdict_from q.2.out.verdict) (sym y.4 ∙ q.2.verdict)))) low low2
            ]
          ]

      decides_one : (conn : ConnId) (seq : Seq) (at : Slot) (value : List ℕ) (set there : Option SharedSet) → t.verdict ≡ s.verdict → option_map (λ (q : SharedSet). q.value) set ≡ option_map (λ (q : SharedSet). q.value) there → Decides v conn seq at value set t v2 → Decides w conn seq at value there s w2 → SameTook t s v2 w2
      decides_one conn seq at value set there verdict sets x y =
          let first : v2.first ≡ w2.first = ap (λ (u : LedgerView D). u.first) x.same ∙ sym (ap (λ (u : LedgerView D). u.first) y.same) in
          let decisions : v2.decisions ≡ w2.decisions = x.decisions ∙ sym y.decisions in
          record {
            verdict = verdict;
            onward = x.onward ∙ sym y.onward;
            outgoing = x.outgoing ∙ sym y.outgoing;
            view = record {
              me = ap (λ (u : LedgerView D). u.me) x.same ∙ sym (ap (λ (u : LedgerView D). u.me) y.same);
              local = ap (λ (u : LedgerView D). u.local) x.same ∙ sym (ap (λ (u : LedgerView D). u.local) y.same);
              driver = ap (λ (u : LedgerView D). u.driver) x.same ∙ sym (ap (λ (u : LedgerView D). u.driver) y.same);
              peers = ap (λ (u : LedgerView D). u.peers) x.same ∙ sym (ap (λ (u : LedgerView D). u.peers) y.same);
              first = first;
              failed = ap (λ (u : LedgerView D). u.failed) x.same ∙ sym (ap (λ (u : LedgerView D). u.failed) y.same);
              journal = ap (map said) x.journal ∙ said_more (Taken conn seq (Record at value) set Deciding ∷ []) (Taken conn seq (Record at value) there Deciding ∷ []) (λ i. (Entry.taken conn seq (Record at value) (sets i), Deciding ∷ []) ∷ []) ∙ sym (ap (map said) y.journal);
              decisions = decisions;
              lowest = lowest_one v2.first v2.decisions v2.lowest w2.lowest low (subst (λ (ds : List Decision). IsLowest v2.first ds w2.lowest) (sym decisions) (subst (λ (n : ℕ). IsLowest n w2.decisions w2.lowest) (sym first) low2));
              asked = λ a. ap (λ (u : LedgerView D). is_asked u.asked a) x.same ∙ asked a ∙ sym (ap (λ (u : LedgerView D). is_asked u.asked a) y.same);
              machines = λ q. moved (machine_at v2.machines q) (machine_at w2.machines q) _ _ (x.machines q) (y.machines q) (gone_one (tree.is_at (nat_cmp at.0) q) (machine_at v.machines q) (machine_at ms q) (machines q));
            };
          }

      record_one : (conn : ConnId) (seq : Seq) (at : Slot) (value : List ℕ) (set there : Option SharedSet) → option_map (λ (q : SharedSet). q.value) set ≡ option_map (λ (q : SharedSet). q.value) there → TakesRecord v conn seq at value set t v2 → TakesRecord w conn seq at value there s w2 → SameTook t s v2 w2
      record_one conn seq at value set there sets x y =
          let link = link_of v.peers conn in
          let a : Asking = record { link = link; slot = at } in
          let verdict : x.0 ≡ y.0 = already_one v.lowest v.decisions at.0 (FirstOf (is_asked v.asked a ≡ false) Unasked (λ z. z ≡ Deciding)) (FirstOf (is_asked os a ≡ false) Unasked (λ z. z ≡ Deciding)) x.0 y.0 (λ p q. first_one (is_asked v.asked a ≡ false) (is_asked os a ≡ false) Unasked _ _ x.0 y.0 p q (λ e. sym (asked a) ∙ e) (λ e. asked a ∙ e) (λ _ e f. e ∙ sym f)) x.1 y.1 in
          elim x.3 [
            | inl p ↦ elim y.3 [
              | inl q ↦ passes_one (Some x.0) (Some y.0) (Taken conn seq (Record at value) set x.0 ∷ []) (Taken conn seq (Record at value) there y.0 ∷ []) t s v2 w2 (ap Some verdict) (λ i. (Entry.taken conn seq (Record at value) (sets i), verdict i ∷ []) ∷ []) p.1 q.1
              | inr q ↦ absurd (p.0 (verdict ∙ q.0))
            ]
            | inr p ↦ elim y.3 [
              | inl q ↦ absurd (q.0 (sym verdict ∙ p.0))
              | inr q ↦ decides_one conn seq at value set there (x.2 ∙ ap Some verdict ∙ sym y.2) sets p.1 q.1
            ]
          ]

      forwards_one : (conn : ConnId) (seq : Seq) (at : Slot) (set there : Option SharedSet) → option_map (λ (q : SharedSet). q.value) set ≡ option_map (λ (q : SharedSet). q.value) there → Forwards v conn seq at set t v2 → Forwards w conn seq at there s w2 → SameTook t s v2 w2
      forwards_one conn seq at set there sets x y = record {
        verdict = x.verdict ∙ sym y.verdict;
        onward = x.onward ∙ sym y.onward;
        outgoing = x.outgoing ∙ sym y.outgoing;
        view = passed (Taken conn seq (GetRecord at) set Forwarded ∷ []) (Taken conn seq (GetRecord at) there Forwarded ∷ []) v2 w2 (λ i. (Entry.taken conn seq (GetRecord at) (sets i), Forwarded ∷ []) ∷ []) x.same y.same;
      }

      message_one : (conn : ConnId) (seq : Seq) (m : Message) (set : Option QuorumTree) → TakesMessage level extracted combined place v conn seq m set t v2 → TakesMessage level extracted combined place w conn seq m set s w2 → SameTook t s v2 w2
      message_one conn seq (Envelope e) set x y = envelope_one conn seq e set x y
      message_one conn seq (GetSet hash) set x y = absurd x
      message_one conn seq (Set inside) set x y = absurd x
      message_one conn seq (NoSet hash) set x y = absurd x
      message_one conn seq (GetRecord at) set x y = forwards_one conn seq at x.0 y.0 (x.1 ∙ sym y.1) x.2 y.2
      message_one conn seq (Record at value) set x y = record_one conn seq at value x.0 y.0 (x.1 ∙ sym y.1) x.2 y.2
      message_one conn seq (Records first values) set x y = absurd x

      machine_command : (at : Slot) (g : SlotInput) → SameInput g g → Commands level extracted combined place v at g t v2 → Commands level extracted combined place w at g s w2 → SameTook t s v2 w2
      machine_command at g same x y = elim x [
        | inl p ↦ elim y [
          | inl q ↦ (let verdict : p.0 ≡ q.0 = gate_one v.lowest v.decisions at.0 (λ _. ⊥) (λ _. ⊥) p.0 q.0 (λ _ never. absurd never) p.1 q.1 in passes_one (Some p.0) (Some q.0) [] [] t s v2 w2 (ap Some verdict) refl p.2 q.2)
          | inr q ↦ absurd (gate_shut v.lowest v.decisions at.0 p.0 p.1 q.is_open)
        ]
        | inr p ↦ elim y [
          | inl q ↦ absurd (gate_shut v.lowest v.decisions at.0 q.0 q.1 p.is_open)
          | inr q ↦ runs_one at g g [] [] t s v2 w2 same p q (λ _. refl) low low2
        ]
      ]

      asks_one : (link : ℕ) (at : Slot) → t.verdict ≡ s.verdict → Asks v link at t v2 → Asks w link at s w2 → SameTook t s v2 w2
      asks_one link at verdict x y =
          let one : (a : Asking) → is_asked v2.asked a ≡ is_asked w2.asked a = λ a. x.asked a ∙ ap (λ (b : Bool). cond (tree.is_at (asking_cmp (record { link = link; slot = at })) a) true b) (asked a) ∙ sym (y.asked a) in
          record {
            verdict = verdict;
            onward = x.onward ∙ sym y.onward;
            outgoing = x.outgoing ∙ sym y.outgoing;
            view = subst (λ (u : LedgerView D). ShowSameLedger u w2) (sym x.same) (subst (λ (u : LedgerView D). ShowSameLedger (record v { asked = v2.asked }) u) (sym y.same)
                (record { me = refl; local = refl; driver = refl; peers = refl; first = refl; failed = refl; journal = journal; decisions = refl; lowest = refl; asked = one; machines = machines }));
          }

      ask_one : (link : ℕ) (at : Slot) → TakesAsk v link at t v2 → TakesAsk w link at s w2 → SameTook t s v2 w2
      ask_one link at x y =
          let a : Asking = record { link = link; slot = at } in
          let verdict : x.0 ≡ y.0 = already_one v.lowest v.decisions at.0 (FirstOf (is_asked v.asked a ≡ true) Idle (λ z. z ≡ Fresh)) (FirstOf (is_asked os a ≡ true) Idle (λ z. z ≡ Fresh)) x.0 y.0 (λ p q. first_one (is_asked v.asked a ≡ true) (is_asked os a ≡ true) Idle _ _ x.0 y.0 p q (λ e. sym (asked a) ∙ e) (λ e. asked a ∙ e) (λ _ e f. e ∙ sym f)) x.1 y.1 in
          elim x.3 [
            | inl p ↦ elim y.3 [
              | inl q ↦ passes_one (Some x.0) (Some y.0) [] [] t s v2 w2 (ap Some verdict) refl p.1 q.1
              | inr q ↦ absurd (p.0 (verdict ∙ q.0))
            ]
            | inr p ↦ elim y.3 [
              | inl q ↦ absurd (q.0 (sym verdict ∙ p.0))
              | inr q ↦ asks_one link at (x.2 ∙ ap Some verdict ∙ sym y.2) p.1 q.1
            ]
          ]

      command_one : (command : Command) → TakesCommand level extracted combined place v command t v2 → TakesCommand level extracted combined place w command s w2 → SameTook t s v2 w2
      command_one (Propose at value) x y = machine_command at (input.Propose value) refl x y
      command_one (Round at) x y = machine_command at input.Round refl x y
      command_one (Timer at) x y = machine_command at input.Timer refl x y
      command_one Tick x y = passes_one None None [] [] t s v2 w2 refl refl x y
      command_one (Ask link at) x y = ask_one link at x y

      takes_one : (thing : Ready) → Takes level extracted combined place v thing t v2 → Takes level extracted combined place w thing s w2 → SameTook t s v2 w2
      takes_one (ready.Deliver d) x y = message_one d.conn d.seq d.message d.set x y
      takes_one (ready.Dropped conn seq cause) x y = passes_one None None _ _ t s v2 w2 refl refl x y
      takes_one (ready.Closed conn cause) x y = passes_one None None _ _ t s v2 w2 refl refl x y
      takes_one (ready.Local command) x y = command_one command x y

  -- ---- what is reported of commands

  by_machine : (at : Slot) (told other : SlotView → CommandFate → Type 0) (a b : CommandFate) → ((m k : SlotView) → ShowSameSlot m k → told m a → other k b → a ≡ b) → ByMachine v at told a → ByMachine w at other b → a ≡ b
  by_machine at told other a b one x y = one (slot_view x.0) (slot_view y.0) (start_one at (machine_at v.machines at.0) (machine_at ms at.0) x.0 y.0 (machines at.0) x.1 y.1).1 x.2 y.2

  proposal_told : (at : Slot) (value : List ℕ) (a b : CommandFate) → IsProposalFate level v at value a → IsProposalFate level w at value b → a ≡ b
  proposal_told at value a b x y = before_one v.lowest v.decisions at.0 (FirstOf (level v.driver at.0 value ≢ FullyValidated) BadValue (ByMachine v at by_proposal)) (FirstOf (level v.driver at.0 value ≢ FullyValidated) BadValue (ByMachine w at by_proposal)) a b (λ p q.
      first_one (level v.driver at.0 value ≢ FullyValidated) (level v.driver at.0 value ≢ FullyValidated) _ _ _ a b p q (λ z. z) (λ z. z) (λ _ p2 q2.
      by_machine at by_proposal by_proposal a b (λ m k same p3 q3. first_one (IsSome m.nomination.proposal) (IsSome k.nomination.proposal) _ _ _ a b p3 q3 (subst (λ (n : Nomination). IsSome n.proposal) same.nomination) (subst (λ (n : Nomination). IsSome n.proposal) (sym same.nomination)) (λ _ e f. e ∙ sym f)) p2 q2)) x y

  round_told : (at : Slot) (a b : CommandFate) → IsRoundFate v at a → IsRoundFate w at b → a ≡ b
  round_told at a b x y = before_one v.lowest v.decisions at.0 (ByMachine v at by_round) (ByMachine w at by_round) a b (λ p q.
      by_machine at by_round by_round a b (λ m k same p2 q2. first_one (length m.nomination.nodes ≤ m.nomination.rounds) (length k.nomination.nodes ≤ k.nomination.rounds) _ _ _ a b p2 q2 (subst (λ (n : Nomination). length n.nodes ≤ n.rounds) same.nomination) (subst (λ (n : Nomination). length n.nodes ≤ n.rounds) (sym same.nomination)) (λ _ e f. e ∙ sym f)) p q) x y

  timer_told : (at : Slot) (out other : List Outgoing) (a b : CommandFate) → out ≡ other → IsTimerFate v at out a → IsTimerFate w at other b → a ≡ b
  timer_told at out other a b same x y = before_one v.lowest v.decisions at.0 (FirstOf (out ≢ []) BallotMoved (ByMachine v at by_timer)) (FirstOf (other ≢ []) BallotMoved (ByMachine w at by_timer)) a b (λ p q.
      first_one (out ≢ []) (other ≢ []) _ _ _ a b p q (λ some none. some (same ∙ none)) (λ some none. some (sym same ∙ none)) (λ _ p2 q2.
      by_machine at by_timer by_timer a b (λ m k alike p3 q3. first_one (¬ (HasBallot m.ballots)) (¬ (HasBallot k.ballots)) _ _ _ a b p3 q3 (λ never h. never (subst HasBallot (sym alike.ballots) h)) (λ never h. never (subst HasBallot alike.ballots h)) (λ _ e f. e ∙ sym f)) p2 q2)) x y

  ask_told : (link : ℕ) (at : Slot) (a b : CommandFate) → IsAskFate v link at a → IsAskFate w link at b → a ≡ b
  ask_told link at a b x y =
      let one = asked (record { link = link; slot = at }) in
      first_one ((is_decided at.0 v.decisions ≡ true) ⊎ (at.0 < v.lowest)) ((is_decided at.0 v.decisions ≡ true) ⊎ (at.0 < v.lowest)) _ _ _ a b x y (λ z. z) (λ z. z) (λ _ x2 y2.
      first_one (IsFar v.lowest at.0) (IsFar v.lowest at.0) _ _ _ a b x2 y2 (λ z. z) (λ z. z) (λ _ x3 y3.
      first_one (is_asked v.asked (record { link = link; slot = at }) ≡ true) (is_asked os (record { link = link; slot = at }) ≡ true) _ _ _ a b x3 y3 (λ e. sym one ∙ e) (λ e. one ∙ e) (λ _ e f. e ∙ sym f)))

  command_told : (command : Command) (t s : Took) → t.outgoing ≡ s.outgoing → TellsCommand level v command t → TellsCommand level w command s → t.command ≡ s.command
  command_told (Propose at value) t s same x y = both_there t.command s.command (IsProposalFate level v at value) (IsProposalFate level w at value) x y (proposal_told at value)
  command_told (Round at) t s same x y = both_there t.command s.command (IsRoundFate v at) (IsRoundFate w at) x y (round_told at)
  command_told (Timer at) t s same x y = both_there t.command s.command (IsTimerFate v at t.outgoing) (IsTimerFate w at s.outgoing) x y (λ a b. timer_told at t.outgoing s.outgoing a b same)
  command_told Tick t s same x y = x ∙ sym y
  command_told (Ask link at) t s same x y = both_there t.command s.command (IsAskFate v link at) (IsAskFate w link at) x y (ask_told link at)

  fate_told : (thing : Ready) (t s : Took) → t.outgoing ≡ s.outgoing → TellsFate level v thing t → TellsFate level w thing s → t.command ≡ s.command
  fate_told (ready.Deliver d) t s same x y = x ∙ sym y
  fate_told (ready.Dropped conn seq cause) t s same x y = x ∙ sym y
  fate_told (ready.Closed conn cause) t s same x y = x ∙ sym y
  fate_told (ready.Local command) t s same x y = command_told command t s same x y

-- Of ledgers that show the same, which take the same thing: what comes of it is the same, and they show the same then.
pub record SameTaking {D : Type 0} (t s : Took) (v w : LedgerView D) : Type 0 where
  pub took : t ≡ s
  pub view : ShowSameLedger v w

module _ {D : Type 0} (level : D → ℕ → List ℕ → Level) (extracted : D → ℕ → List ℕ → Option (List ℕ)) (combined : D → ℕ → List (List ℕ) → List ℕ) (place : D → ℕ → ℕ → ℕ → ℕ) (law : SlotLaws D) where
  pub taking_one : (v w v2 w2 : LedgerView D) (thing : Ready) (t s : Took) → ShowSameLedger v w → IsRunning level place v → IsInRange v.local → Takes level extracted combined place v thing t v2 → TellsFate level v thing t → Takes level extracted combined place w thing s w2 → TellsFate level w thing s → IsLowest v2.first v2.decisions v2.lowest → IsLowest w2.first w2.decisions w2.lowest → SameTaking t s v2 w2
  taking_one v w v2 w2 thing t s same running range x tx y ty low low2 =
      let other : LedgerView D = beside v w.journal w.asked w.machines in
      let is : w ≡ other = λ i. record {
        me = sym same.me i;
        local = sym same.local i;
        driver = sym same.driver i;
        peers = sym same.peers i;
        first = sym same.first i;
        failed = sym same.failed i;
        journal = w.journal;
        decisions = sym same.decisions i;
        lowest = sym same.lowest i;
        asked = w.asked;
        machines = w.machines;
      } in
      let there : Takes level extracted combined place other thing s w2 = subst (λ (u : LedgerView D). Takes level extracted combined place u thing s w2) is y in
      let told : TellsFate level other thing s = subst (λ (u : LedgerView D). TellsFate level u thing s) is ty in
      let one = takes_one level extracted combined place law v w.journal w.asked w.machines same.journal same.asked same.machines running range t s v2 w2 low low2 thing x there in
      let command : t.command ≡ s.command = fate_told level extracted combined place law v w.journal w.asked w.machines same.journal same.asked same.machines thing t s one.outgoing tx told in
      record { took = λ i. record { verdict = one.verdict i; command = command i; onward = one.onward i; outgoing = one.outgoing i }; view = one.view }
