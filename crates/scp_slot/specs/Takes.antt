-- What one input does to the machine of a slot.
use Rattle.std.specs.Prelude.{◌≡◌, ◌≢◌, ◌≤◌, ◌+◌, ◌⊎◌, ◌↔◌, ℕ, List, length, Bool, true, false, Option, Some, None, IsSome, is_some}
use Rattle.std.specs.Option.{ForSome}
use Rattle.scp_nominate.specs.scp_quorum.specs.SharedSet.{SharedSet}
use Rattle.scp_nominate.specs.scp_envelope.specs.declared.statement.Statement.{Statement}
use Rattle.scp_nominate.specs.scp_envelope.specs.declared.statement.Envelope.{Envelope as Enveloped}
use Rattle.scp_nominate.specs.scp_envelope.specs.Sane.{IsSane}
use Rattle.scp_nominate.specs.scp_driver.specs.declared.driver.Level.{Level}
use Rattle.scp_nominate.specs.scp_driver.specs.declared.driver.Level.TheVariants.{FullyValidated}
use Rattle.scp_nominate.specs.scp_vote.specs.declared.claim.StatementKind.{StatementKind}
use Rattle.scp_nominate.specs.scp_vote.specs.declared.claim.StatementKind.TheVariants.{Nomination as Nominating, Balloting}
use Rattle.scp_nominate.specs.scp_vote.specs.Board.{kind_of_pledges, counted_of_other}
use Rattle.scp_nominate.specs.declared.nominated.Nominated.{Nominated}
use Rattle.scp_nominate.specs.Nomination as nominate
use Rattle.scp_nominate.specs.Nomination.{Nomination}
use Rattle.scp_nominate.specs.declared.nominator.Nominator.{Nominator}
use Rattle.scp_ballot.specs.declared.balloted.Balloted.{Balloted}
use Rattle.scp_ballot.specs.Balloting as ballot
use Rattle.scp_ballot.specs.Outcome.{ComposesExactly, TimesExactly, HearsExactly}
use Rattle.scp_slot.specs.declared.newest.Heard.{Heard}
use Rattle.scp_slot.specs.declared.output.SlotInput.{SlotInput}
use Rattle.scp_slot.specs.declared.output.SlotInput.TheVariants.{Propose, Round, Timer, Envelope}
use Rattle.scp_slot.specs.declared.output.SlotOutput.{SlotOutput}
use Rattle.scp_slot.specs.declared.output.Verdict.{Verdict}
use Rattle.scp_slot.specs.declared.output.Verdict.TheVariants.{Fresh, Stale, Own, BadStatement, BadValue, Idle}
use Rattle.scp_slot.specs.Judged.{HasInvalid, IsBehind}
use Rattle.scp_slot.specs.declared.machine.SlotMachine.{SlotMachine}
use Rattle.scp_slot.specs.Newest.{Puts}
use Rattle.scp_slot.specs.Slot.{SlotView}

-- only the verdict, and nothing else
abbrev pub quiet : Verdict → Bool → SlotOutput
quiet verdict more = record { verdict = verdict; emitted = record { nomination = None; ballot = None }; decided = None; more = more }

-- Nothing changes, and only the verdict is given.
pub record Rests (verdict : Verdict) (old : SlotView) (out : SlotOutput) (new : SlotView) : Type 0 where
  pub same : new ≡ old
  pub quiet : out ≡ quiet verdict old.more

-- A if P holds, else B
abbrev pub Cases : Type 0 → Type 0 → Type 0 → Type 0
Cases P A B = (P × A) ⊎ ((¬ P) × B)

-- the part of an output that the ballots gave
abbrev pub ballots_given : SlotOutput → Balloted
ballots_given out = record { statement = out.emitted.ballot; decided = out.decided; more = out.more }

-- The ballots take an input, and what they give is given.
pub record Ballots (old : SlotView) (out : SlotOutput) (new : SlotView) : Type 0 where
  pub advances : ballot.Advances old.ballots new.ballots (ballots_given out)
  pub has_ballot : ballot.HasBallot old.ballots → ballot.HasBallot new.ballots
  pub working : new.ballots.failed ≡ false
  pub more : new.more ≡ out.more
  pub settled : new.decided ≡ is_some out.decided

-- The ballots stay, and give nothing.
pub record BallotsRest (old : SlotView) (out : SlotOutput) (new : SlotView) : Type 0 where
  pub ballots : new.ballots ≡ old.ballots
  pub emitted : out.emitted.ballot ≡ None
  pub decided : out.decided ≡ None
  pub more : out.more ≡ old.more
  pub still : new.more ≡ old.more
  pub settled : new.decided ≡ old.decided

-- This composite goes to the ballots as their candidate: it is kept, and makes the first ballot.
pub record Candidate (value : List ℕ) (old : SlotView) (out : SlotOutput) (new : SlotView) : Type 0 where
  pub ballots : Ballots old out new
  pub composite : ballot.TakesValue value old.ballots new.ballots
  pub first : ballot.MakesFirst value old.ballots new.ballots
  pub has_ballot : ballot.HasBallot new.ballots
  pub others : ballot.KeepsOthers old.ballots.board new.ballots.board
  pub exact : ComposesExactly value old.ballots new.ballots (ballots_given out)

-- what nomination's composite, if there is one, makes of the ballots
abbrev pub PassesOn : Option (List ℕ) → SlotView → SlotOutput → SlotView → Type 0
PassesOn None old out new = BallotsRest old out new
PassesOn (Some composite) old out new = Candidate composite old out new

-- the part of an output that nomination gave, with a composite
abbrev pub nomination_given : SlotOutput → Option (List ℕ) → Nominated
nomination_given out composite = record { statement = out.emitted.nomination; composite = composite }

-- Nomination takes an input: what it gives is given, and its composite, if there is one, is passed on.
pub record Nominates (combined : List (List ℕ) → List ℕ) (old : SlotView) (out : SlotOutput) (new : SlotView) : Type 0 where
  pub composite : Option (List ℕ)
  pub advances : nominate.Advances combined (nominate.own old.nomination) old.nomination.lists new.nomination (nomination_given out composite)
  pub making : nominate.KeepsMaking old.nomination new.nomination
  pub working : new.nomination.failed ≡ false
  pub passed : PassesOn composite old out new
  pub verdict : out.verdict ≡ Fresh

-- The machine is of the same node and slot as before.
pub record IsSameMachine (old new : SlotView) : Type 0 where
  pub me : new.me ≡ old.me
  pub slot : new.slot ≡ old.slot

-- The first proposal.
pub record Proposes (combined : List (List ℕ) → List ℕ) (value : List ℕ) (old : SlotView) (out : SlotOutput) (new : SlotView) : Type 0 where
  pub machine : IsSameMachine old new
  pub nominates : Nominates combined old out new
  pub proposal : new.nomination.proposal ≡ Some value
  pub rounds : new.nomination.rounds ≡ old.nomination.rounds
  pub others : nominate.KeepsOthers old.nomination.board new.nomination.board
  pub newest : new.newest ≡ old.newest

-- One round more.
pub record AddsRound (combined : List (List ℕ) → List ℕ) (old : SlotView) (out : SlotOutput) (new : SlotView) : Type 0 where
  pub machine : IsSameMachine old new
  pub nominates : Nominates combined old out new
  pub proposal : new.nomination.proposal ≡ old.nomination.proposal
  pub rounds : new.nomination.rounds ≡ old.nomination.rounds + 1
  pub others : nominate.KeepsOthers old.nomination.board new.nomination.board
  pub newest : new.newest ≡ old.newest

-- A timer went off. The verdict is fresh exactly if an own ballot statement is emitted.
pub record Times (old : SlotView) (out : SlotOutput) (new : SlotView) : Type 0 where
  pub machine : IsSameMachine old new
  pub ballots : Ballots old out new
  pub composite : new.ballots.composite ≡ old.ballots.composite
  pub exact : TimesExactly old.ballots new.ballots (ballots_given out)
  pub raises : ballot.RaisesCounter old.ballots new.ballots
  pub others : ballot.KeepsOthers old.ballots.board new.ballots.board
  pub nomination : new.nomination ≡ old.nomination
  pub emitted : out.emitted.nomination ≡ None
  pub newest : new.newest ≡ old.newest
  pub verdict : Cases (IsSome out.emitted.ballot) (out.verdict ≡ Fresh) (out.verdict ≡ Idle)

-- the statement, with its set, is now the newest of its node and kind
pub record Enters (e : Enveloped) (set : SharedSet) (old new : SlotView) : Type 0 where
  pub heard : Heard
  pub statement : heard.statement ≡ e.statement
  pub with_set : heard.set.value ≡ set.value
  pub puts : Puts old.newest new.newest heard

-- A fresh NOMINATE.
pub record HearsNomination (combined : List (List ℕ) → List ℕ) (e : Enveloped) (set : SharedSet) (old : SlotView) (out : SlotOutput) (new : SlotView) : Type 0 where
  pub machine : IsSameMachine old new
  pub nominates : Nominates combined old out new
  pub proposal : new.nomination.proposal ≡ old.nomination.proposal
  pub rounds : new.nomination.rounds ≡ old.nomination.rounds
  pub hears : nominate.Hears old.nomination.board new.nomination.board e.statement.node e.statement.pledges (counted_of_other e.statement.node e.statement.pledges set.value)
  pub enters : Enters e set old new

-- A fresh ballot statement.
pub record HearsBallot (e : Enveloped) (set : SharedSet) (old : SlotView) (out : SlotOutput) (new : SlotView) : Type 0 where
  pub machine : IsSameMachine old new
  pub ballots : Ballots old out new
  pub composite : new.ballots.composite ≡ old.ballots.composite
  pub exact : HearsExactly e set.value old.ballots new.ballots (ballots_given out)
  pub hears : ballot.Hears old.ballots.board new.ballots.board e.statement.node e.statement.pledges (counted_of_other e.statement.node e.statement.pledges set.value)
  pub nomination : new.nomination ≡ old.nomination
  pub emitted : out.emitted.nomination ≡ None
  pub enters : Enters e set old new
  pub verdict : out.verdict ≡ Fresh

-- what a fresh NOMINATE, or a fresh ballot statement, makes of the machine
abbrev pub HearsKind : StatementKind → (List (List ℕ) → List ℕ) → Enveloped → SharedSet → SlotView → SlotOutput → SlotView → Type 0
HearsKind Nominating combined e set old out new = HearsNomination combined e set old out new
HearsKind Balloting combined e set old out new = HearsBallot e set old out new

-- what a fresh statement makes of the machine, by its kind
abbrev pub HearsFresh : (List (List ℕ) → List ℕ) → Enveloped → SharedSet → SlotView → SlotOutput → SlotView → Type 0
HearsFresh combined e set old out new = HearsKind (kind_of_pledges e.statement.pledges) combined e set old out new

-- the newest statement of the node and kind
abbrev pub last_of : SlotView → Statement → Option Heard
last_of v s = v.newest (kind_of_pledges s.pledges) s.node

-- An envelope: its verdict is the first that fits, and only a fresh one is taken in.
abbrev pub TakesEnvelope : (List ℕ → Level) → (List (List ℕ) → List ℕ) → Enveloped → SharedSet → SlotView → SlotOutput → SlotView → Type 0
TakesEnvelope level combined e set old out new =
    Cases (e.statement.node ≡ old.me) (Rests Own old out new)
    (Cases (¬ (IsSane e.statement.pledges)) (Rests BadStatement old out new)
    (Cases (HasInvalid level e.statement.pledges) (Rests BadValue old out new)
    (Cases (IsBehind (last_of old e.statement) e.statement) (Rests Stale old out new)
    (HearsFresh combined e set old out new))))

-- An input before the decision.
abbrev pub TakesInput : (List ℕ → Level) → (List (List ℕ) → List ℕ) → SlotInput → SlotView → SlotOutput → SlotView → Type 0
TakesInput level combined (Propose value) old out new =
    Cases (level value ≢ FullyValidated) (Rests BadValue old out new) (Cases (IsSome old.nomination.proposal) (Rests Idle old out new) (Proposes combined value old out new))
TakesInput level combined Round old out new = Cases (length old.nomination.nodes ≤ old.nomination.rounds) (Rests Idle old out new) (AddsRound combined old out new)
TakesInput level combined Timer old out new = Times old out new
TakesInput level combined (Envelope e set) old out new = TakesEnvelope level combined e set old out new

-- An input; after the decision none changes anything.
abbrev pub Takes : (List ℕ → Level) → (List (List ℕ) → List ℕ) → SlotInput → SlotView → SlotOutput → SlotView → Type 0
Takes level combined input old out new = Cases (old.decided ≡ true) (Rests Idle old out new) (TakesInput level combined input old out new)

-- By its driver's answers, nomination is as it was, or its steps lead to it: from the board and the lists that it had, and at an
-- envelope from that board with the envelope's statement.
abbrev pub NominatesBy : {D : Type 0} → (D → ℕ → List ℕ → Level) → (D → ℕ → List ℕ → Option (List ℕ)) → (D → ℕ → ℕ → ℕ → ℕ) → Nomination → SlotInput → Nominator D → Type 0
NominatesBy level extracted place old (Propose value) m = (nominate.nomination m ≡ old) ⊎ nominate.ComesFrom level extracted place old old.board m
NominatesBy level extracted place old Round m = (nominate.nomination m ≡ old) ⊎ nominate.ComesFrom level extracted place old old.board m
NominatesBy level extracted place old Timer m = nominate.nomination m ≡ old
NominatesBy level extracted place old (Envelope e set) m = (nominate.nomination m ≡ old) ⊎ nominate.ComesFromHearing level extracted place old e set.value m

-- nomination is as it was, or its steps lead to it from the board and the lists that it had
abbrev pub NominatesExactly : {D : Type 0} → (D → ℕ → List ℕ → Level) → (D → ℕ → List ℕ → Option (List ℕ)) → (D → ℕ → ℕ → ℕ → ℕ) → SlotView → SlotInput → SlotMachine D → Type 0
NominatesExactly level extracted place old input m = NominatesBy level extracted place old.nomination input m.state.value.nominator

-- an envelope goes to the machine of its slot
abbrev pub IsOfSlot : ℕ → SlotInput → Type 0
IsOfSlot slot (Propose value) = Unit {0}
IsOfSlot slot Round = Unit {0}
IsOfSlot slot Timer = Unit {0}
IsOfSlot slot (Envelope e set) = e.statement.slot.0 ≡ slot

-- A decision is given exactly at the input that makes the own ballot statement an EXTERNALIZE, with its certificate on the board
-- after the input.
pub record Decides (old : SlotView) (out : SlotOutput) (new : SlotView) : Type 0 where
  pub exactly : IsSome out.decided ↔ ((ballot.IsDecided old.ballots → ⊥) × ballot.IsDecided new.ballots)
  pub certified : ForSome out.decided (λ d. ballot.IsCertified new.ballots d)
