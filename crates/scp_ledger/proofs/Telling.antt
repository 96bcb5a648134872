-- What became of a command, by the verdict on it.
use Rattle.std.proofs.Common.{◌≡◌, ◌≢◌, ℕ, ◌<◌, ◌≤◌, true, false, List, [], refl, sym, ◌∙◌, ap, subst, inl, inr, arith, length}
use Rattle.std.specs.Prelude.{Bool, Option, Some, None, IsSome, IsSomeAnd, IsTrue, ◌↔◌, option_to_list, map, ◌++◌}
use Rattle.scp_slot.specs.scp_types.specs.declared.names.Slot.{Slot}
use Rattle.scp_slot.specs.scp_driver.specs.declared.driver.Level.{Level}
use Rattle.scp_slot.specs.scp_driver.specs.declared.driver.Level.TheVariants.{FullyValidated}
use Rattle.scp_slot.specs.scp_envelope.specs.declared.statement.Envelope.{Envelope as Enveloped}
use Rattle.scp_slot.specs.scp_envelope.specs.declared.statement.Pledges.{Pledges}
use Rattle.scp_slot.specs.scp_ballot.specs.Balloting.{HasBallot, HasCounter, own}
use Rattle.scp_slot.specs.declared.machine.SlotMachine.{SlotMachine}
use Rattle.scp_slot.specs.declared.output.SlotInput.{SlotInput}
use Rattle.scp_slot.specs.declared.output.SlotInput.TheVariants.{Propose, Round, Timer}
use Rattle.scp_slot.specs.declared.output.SlotOutput.{SlotOutput}
use Rattle.scp_slot.specs.declared.output.Verdict.{Verdict as Found}
use Rattle.scp_slot.specs.declared.output.Verdict.TheVariants as found
use Rattle.scp_slot.specs.Slot.{slot_view, driver_of}
use Rattle.scp_slot.specs.Takes as slot
use Rattle.scp_ledger.specs.declared.journal.Decision.{Decision}
use Rattle.scp_ledger.specs.declared.journal.Verdict.{Verdict}
use Rattle.scp_ledger.specs.declared.took.CommandFate.{CommandFate}
use Rattle.scp_ledger.specs.declared.took.CommandFate.TheVariants as fate
use Rattle.scp_ledger.specs.declared.took.Outgoing.{Outgoing}
use Rattle.scp_ledger.specs.declared.took.Took.{Took}
use Rattle.scp_ledger.specs.Decisions.{is_decided}
use Rattle.scp_ledger.specs.Seen.{LedgerView, machine_at}
use Rattle.scp_ledger.specs.Verdicts.{FirstOf, BehindWindow, IsOpen}
use Rattle.scp_ledger.specs.Takes.{RunsAt, Passes, Commands, TakesAsk, IsMachineFor, verdict_from, to_all}
use Rattle.scp_ledger.specs.Ledger.{HasMachines}
use Rattle.scp_ledger.specs.CommandFates.{BeforeMachine, ByMachine, IsProposalFate, IsRoundFate, IsTimerFate, IsAskFate}
use Rattle.scp_ledger.specs.inside.FateBy.{fate_by, HasBallotAt, IsIdleTimer}
use Rattle.scp_ledger.proofs.Boards.{taken_in}
use Rattle.scp_ledger.proofs.Ran.{Knows, knows}

-- ---- at a slot that isn't open, and at one that is

-- by a verdict that was said
said : (o : Option Verdict) (verdict : Verdict) (idle fresh first : CommandFate) → o ≡ Some verdict → fate_by (Some verdict) idle fresh ≡ first → fate_by o idle fresh ≡ first
said o verdict idle fresh first is e = ap (λ (x : Option Verdict). fate_by x idle fresh) is ∙ e

shut_told : (lowest slot : ℕ) (ds : List Decision) (later : CommandFate → Type 0) (idle fresh : CommandFate) (verdict : Verdict) → BehindWindow lowest ds slot (λ x. ⊥) verdict → BeforeMachine lowest ds slot later (fate_by (Some verdict) idle fresh)
shut_told lowest slot ds later idle fresh verdict h = elim h [
  | inl old ↦ inl (old.0, ap (λ (x : Verdict). fate_by (Some x) idle fresh) old.1)
  | inr a ↦ inr (
    a.0,
    elim a.1 [
      | inl far ↦ inl (far.0, ap (λ (x : Verdict). fate_by (Some x) idle fresh) far.1)
      | inr b ↦ inr (
        b.0,
        elim b.1 [
          | inl already ↦ inl (already.0, ap (λ (x : Verdict). fate_by (Some x) idle fresh) already.1)
          | inr c ↦ absurd c.1
        ],
      )
    ],
  )
]

open_told : (lowest slot : ℕ) (ds : List Decision) (later : CommandFate → Type 0) (told : CommandFate) → IsOpen lowest ds slot → later told → BeforeMachine lowest ds slot later told
open_told lowest slot ds later told is h =
    inr ((λ (low : slot < lowest). absurd (omega (arith, low, is.not_old))), inr (is.not_far, inr ((λ (d : is_decided slot ds ≡ true). let t : true ≡ false = sym d ∙ is.undecided in cc), h)))

-- ---- what goes out after a timer

abbrev sends : Option Enveloped → Option Enveloped → List Outgoing
sends n b = map to_all (option_to_list n ++ option_to_list b)

goes_out : (n b : Option Enveloped) → n ≡ None → IsSome b → sends n b ≢ []
goes_out n None none is = absurd (let t : false ≡ true = is in cc)
goes_out n (Some e) none is = λ nothing. let t : sends None (Some e) ≡ [] = ap (λ (o : Option Enveloped). sends o (Some e)) (sym none) ∙ nothing in cc

stays_in : (n b : Option Enveloped) → n ≡ None → ¬ (IsSome b) → sends n b ≡ []
stays_in n None none nothing = ap (λ (o : Option Enveloped). sends o None) none
stays_in n (Some e) none nothing = absurd (nothing refl)

-- ---- the machine that has a ballot

no_statement : (o : Option Pledges) → o ≡ None → ¬ (IsSomeAnd o HasCounter)
no_statement o none is = subst (λ (x : Option Pledges). IsSomeAnd x HasCounter) none is

ballot_at : {D : Type 0} (v : LedgerView D) (at : Slot) (o : Option (SlotMachine D)) (m : SlotMachine D) → IsMachineFor v at o m → HasBallotAt o → HasBallot (slot_view m).ballots
ballot_at v at None m is has = absurd has
ballot_at v at (Some there) m is has = subst (λ (x : SlotMachine _). HasBallot (slot_view x).ballots) (sym is) has

at_ballot : {D : Type 0} (v : LedgerView D) (at : Slot) (o : Option (SlotMachine D)) (m : SlotMachine D) → IsMachineFor v at o m → HasBallot (slot_view m).ballots → HasBallotAt o
at_ballot v at None m is has = no_statement (own (slot_view m).ballots) (is.0.ballots.statements (slot_view m).ballots.board.me) has
at_ballot v at (Some there) m is has = subst (λ (x : SlotMachine _). HasBallot (slot_view x).ballots) is has

pub idle_some : {D : Type 0} (o : Option (SlotMachine D)) (m : SlotMachine D) (has : Bool) (told : CommandFate) → o ≡ Some m → (IsTrue has ↔ HasBallot (slot_view m).ballots) → (IsTrue has → told ≡ fate.BallotStays) → (¬ (IsTrue has) → told ≡ fate.NoBallot) → IsIdleTimer o told
idle_some o m true told is exact stays none = inr ((λ no. no (subst (λ (x : Option (SlotMachine _)). HasBallotAt x) (sym is) (exact.0 refl))), stays refl)
idle_some o m false told is exact stays none = inl ((λ there. not_so (exact.1 (subst (λ (x : Option (SlotMachine _)). HasBallotAt x) is there))), none not_so)
  where
    not_so : IsTrue false → ⊥
    not_so t = let e : false ≡ true = t in cc

module _ {D : Type 0} (level : D → ℕ → List ℕ → Level) (extracted : D → ℕ → List ℕ → Option (List ℕ)) (combined : D → ℕ → List (List ℕ) → List ℕ) (place : D → ℕ → ℕ → ℕ → ℕ) where
  -- ---- what is reported of a command changes nothing else

  run_told : (v w : LedgerView D) (at : Slot) (given : SlotInput) (took : Took) (told : Option CommandFate) → RunsAt level extracted combined place v at given [] took w → RunsAt level extracted combined place v at given [] (record took { command = told }) w
  run_told v w at given took told r = record {
    is_open = r.is_open;
    before = r.before;
    machine = r.machine;
    out = r.out;
    after = r.after;
    takes = r.takes;
    decides = r.decides;
    ascending = r.ascending;
    driver = r.driver;
    nominates = r.nominates;
    votes = r.votes;
    machines = r.machines;
    verdict = r.verdict;
    onward = r.onward;
    outgoing = r.outgoing;
    decisions = r.decisions;
    journal = r.journal;
    same = r.same;
  }

  pass_told : (v w : LedgerView D) (verdict : Option Verdict) (took : Took) (told : Option CommandFate) → Passes v verdict [] took w → Passes v verdict [] (record took { command = told }) w
  pass_told v w verdict took told p = record { verdict = p.verdict; onward = p.onward; outgoing = p.outgoing; same = p.same }

  pub commands_told : (v w : LedgerView D) (at : Slot) (given : SlotInput) (took : Took) (told : Option CommandFate) → Commands level extracted combined place v at given took w → Commands level extracted combined place v at given (record took { command = told }) w
  commands_told v w at given took told h = elim h [
    | inl p ↦ inl (p.0, p.1, pass_told v w (Some p.0) took told p.2)
    | inr r ↦ inr (run_told v w at given took told r)
  ]

  pub ask_told : (v w : LedgerView D) (link : ℕ) (at : Slot) (took : Took) (told : Option CommandFate) → TakesAsk v link at took w → TakesAsk v link at (record took { command = told }) w
  ask_told v w link at took told h = (
    h.0,
    h.1,
    h.2,
    elim h.3 [
      | inl p ↦ inl (p.0, pass_told v w (Some h.0) took told p.1)
      | inr a ↦ inr (a.0, record { onward = a.1.onward; outgoing = a.1.outgoing; asked = a.1.asked; same = a.1.same })
    ],
  )

  -- ---- the fates

  module _ (v w : LedgerView D) (at : Slot) (took : Took) (fits : HasMachines level place v) where
    its : {given : SlotInput} (r : RunsAt level extracted combined place v at given [] took w) → Knows v at.0 r.before
    its r = knows level place v at (machine_at v.machines at.0) r.before r.is_open.undecided (fits at.0) r.machine

    -- the fate of a command of which the machine found this
    found_so : {given : SlotInput} (r : RunsAt level extracted combined place v at given [] took w) (x : Found) (idle fresh first : CommandFate) → r.out.verdict ≡ x → fate_by (Some (verdict_from x)) idle fresh ≡ first → fate_by took.verdict idle fresh ≡ first
    found_so r x idle fresh first is e = said took.verdict (verdict_from x) idle fresh first (r.verdict ∙ ap (λ (y : Found). Some (verdict_from y)) is) e

    rested : {given : SlotInput} (r : RunsAt level extracted combined place v at given [] took w) (x : Found) → slot.Rests x (slot_view r.before) r.out (slot_view r.after) → r.out.verdict ≡ x
    rested r x rests = ap (λ (o : SlotOutput). o.verdict) rests.quiet

    passed_told : (later : CommandFate → Type 0) (idle fresh : CommandFate) (verdict : Verdict) → BehindWindow v.lowest v.decisions at.0 (λ x. ⊥) verdict → took.verdict ≡ Some verdict → BeforeMachine v.lowest v.decisions at.0 later (fate_by took.verdict idle fresh)
    passed_told later idle fresh verdict h is = subst (λ (o : Option Verdict). BeforeMachine v.lowest v.decisions at.0 later (fate_by o idle fresh)) (sym is) (shut_told v.lowest at.0 v.decisions later idle fresh verdict h)

    -- what comes after the window is checked
    abbrev OfProposal : List ℕ → CommandFate → Type 0
    OfProposal value = FirstOf (level v.driver at.0 value ≢ FullyValidated) fate.BadValue (ByMachine v at (λ m. FirstOf (IsSome m.nomination.proposal) fate.ProposedBefore (λ x. x ≡ fate.Proposed)))

    abbrev OfRound : CommandFate → Type 0
    OfRound = ByMachine v at (λ m. FirstOf (length m.nomination.nodes ≤ m.nomination.rounds) fate.NoRoundLeft (λ x. x ≡ fate.RoundAdded))

    abbrev OfIdleTimer : CommandFate → Type 0
    OfIdleTimer = ByMachine v at (λ m. FirstOf (¬ (HasBallot m.ballots)) fate.NoBallot (λ x. x ≡ fate.BallotStays))

    abbrev OfTimer : CommandFate → Type 0
    OfTimer = FirstOf (took.outgoing ≢ []) fate.BallotMoved OfIdleTimer

    pub proposal_told : (value : List ℕ) → Commands level extracted combined place v at (Propose value) took w → IsProposalFate level v at value (fate_by took.verdict fate.ProposedBefore fate.Proposed)
    proposal_told value h = elim h [
      | inl p ↦ passed_told (OfProposal value) fate.ProposedBefore fate.Proposed p.0 p.1 p.2.verdict
      | inr r ↦ (
          let m = slot_view r.before in
          let k = its r in
          let lv : level (driver_of r.before) m.slot value ≡ level v.driver at.0 value = ap (λ (d : D). level d m.slot value) k.its_driver ∙ ap (λ (n : ℕ). level v.driver n value) k.slot in
          let takes = taken_in (level (driver_of r.before) m.slot) (combined (driver_of r.before) m.nomination.slot) (Propose value) m r.out (slot_view r.after) k.silent r.takes in
          open_told v.lowest at.0 v.decisions (OfProposal value) (fate_by took.verdict fate.ProposedBefore fate.Proposed) r.is_open
          (elim takes [
            | inl bad ↦ inl ((λ is. bad.0 (lv ∙ is)), found_so r found.BadValue fate.ProposedBefore fate.Proposed fate.BadValue (rested r found.BadValue bad.1) refl)
            | inr a ↦ inr (
              (λ no. a.0 (λ is. no (sym lv ∙ is))),
              elim a.1 [
                | inl idle ↦ (r.before, r.machine, inl (idle.0, found_so r found.Idle fate.ProposedBefore fate.Proposed fate.ProposedBefore (rested r found.Idle idle.1) refl))
                | inr b ↦ (r.before, r.machine, inr (b.0, found_so r found.Fresh fate.ProposedBefore fate.Proposed fate.Proposed b.1.nominates.verdict refl))
              ],
            )
          ]))
    ]

    pub round_told : Commands level extracted combined place v at Round took w → IsRoundFate v at (fate_by took.verdict fate.NoRoundLeft fate.RoundAdded)
    round_told h = elim h [
      | inl p ↦ passed_told OfRound fate.NoRoundLeft fate.RoundAdded p.0 p.1 p.2.verdict
      | inr r ↦ (
          let m = slot_view r.before in
          let k = its r in
          let takes = taken_in (level (driver_of r.before) m.slot) (combined (driver_of r.before) m.nomination.slot) Round m r.out (slot_view r.after) k.silent r.takes in
          open_told v.lowest at.0 v.decisions OfRound (fate_by took.verdict fate.NoRoundLeft fate.RoundAdded) r.is_open
          (elim takes [
            | inl idle ↦ (r.before, r.machine, inl (idle.0, found_so r found.Idle fate.NoRoundLeft fate.RoundAdded fate.NoRoundLeft (rested r found.Idle idle.1) refl))
            | inr b ↦ (r.before, r.machine, inr (b.0, found_so r found.Fresh fate.NoRoundLeft fate.RoundAdded fate.RoundAdded b.1.nominates.verdict refl))
          ]))
    ]

    idle_told : {given : SlotInput} (r : RunsAt level extracted combined place v at given [] took w) (idle told : CommandFate) → IsIdleTimer (machine_at v.machines at.0) idle → told ≡ idle → OfIdleTimer told
    idle_told r idle told is same = (
      r.before,
      r.machine,
      elim is [
        | inl lacks ↦ inl ((λ has. lacks.0 (at_ballot v at (machine_at v.machines at.0) r.before r.machine has)), same ∙ lacks.1)
        | inr has ↦ inr ((λ lacks. has.0 (λ there. lacks (ballot_at v at (machine_at v.machines at.0) r.before r.machine there))), same ∙ has.1)
      ],
    )

    pub timer_told : (idle : CommandFate) → IsIdleTimer (machine_at v.machines at.0) idle → Commands level extracted combined place v at Timer took w → IsTimerFate v at took.outgoing (fate_by took.verdict idle fate.BallotMoved)
    timer_told idle is h = elim h [
      | inl p ↦ passed_told OfTimer idle fate.BallotMoved p.0 p.1 p.2.verdict
      | inr r ↦ (
          let m = slot_view r.before in
          let k = its r in
          let t = taken_in (level (driver_of r.before) m.slot) (combined (driver_of r.before) m.nomination.slot) Timer m r.out (slot_view r.after) k.silent r.takes in
          open_told v.lowest at.0 v.decisions OfTimer (fate_by took.verdict idle fate.BallotMoved) r.is_open
          (elim t.verdict [
            | inl out ↦ inl ((λ none. goes_out r.out.emitted.nomination r.out.emitted.ballot t.emitted out.0 (sym r.outgoing ∙ none)), found_so r found.Fresh idle fate.BallotMoved fate.BallotMoved out.1 refl)
            | inr in' ↦ inr (
              (λ some. some (r.outgoing ∙ stays_in r.out.emitted.nomination r.out.emitted.ballot t.emitted in'.0)),
              idle_told r idle (fate_by took.verdict idle fate.BallotMoved) is (found_so r found.Idle idle fate.BallotMoved idle in'.1 refl),
            )
          ]))
    ]

    pub asked_told : (link : ℕ) → TakesAsk v link at took w → IsAskFate v link at (fate_by took.verdict fate.AskedBefore fate.Asked)
    asked_told link h = elim h.1 [
      | inl already ↦ inl (already.0, said took.verdict h.0 fate.AskedBefore fate.Asked fate.Decided h.2 (ap (λ (x : Verdict). fate_by (Some x) fate.AskedBefore fate.Asked) already.1))
      | inr a ↦ inr (
        a.0,
        elim a.1 [
          | inl far ↦ inl (far.0, said took.verdict h.0 fate.AskedBefore fate.Asked fate.FarSlot h.2 (ap (λ (x : Verdict). fate_by (Some x) fate.AskedBefore fate.Asked) far.1))
          | inr b ↦ inr (
            b.0,
            elim b.1 [
              | inl before ↦ inl (before.0, said took.verdict h.0 fate.AskedBefore fate.Asked fate.AskedBefore h.2 (ap (λ (x : Verdict). fate_by (Some x) fate.AskedBefore fate.Asked) before.1))
              | inr c ↦ inr (c.0, said took.verdict h.0 fate.AskedBefore fate.Asked fate.Asked h.2 (ap (λ (x : Verdict). fate_by (Some x) fate.AskedBefore fate.Asked) c.1))
            ],
          )
        ],
      )
    ]
