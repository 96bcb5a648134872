-- What a composite is for: it is kept, and makes the first ballot.
use Rattle.std.proofs.Common.{◌≡◌, ◌≢◌, ◌⊎◌, ℕ, List, Bool, Option, Some, None, IsSome, IsSomeAnd, refl, sym, ◌∙◌, ap, subst, inl, inr}
use Rattle.std.specs.Option.{ForSome}
use Rattle.scp_ballot_rules.specs.scp_types.specs.declared.ballot.Ballot.{Ballot}
use Rattle.scp_ballot_rules.specs.scp_types.specs.declared.names.Hash.{Hash}
use Rattle.scp_ballot_rules.specs.scp_quorum.specs.QuorumTree.{QuorumTree}
use Rattle.scp_ballot_rules.specs.scp_envelope.specs.declared.statement.Pledges.{Pledges}
use Rattle.scp_ballot_rules.specs.scp_envelope.specs.declared.statement.Envelope.{Envelope}
use Rattle.scp_ballot_rules.specs.scp_vote.specs.Board.{Seen}
use Rattle.scp_ballot_rules.specs.declared.state.State.{State}
use Rattle.scp_ballot_rules.specs.declared.state.Phase.{Phase}
use Rattle.scp_ballot_rules.specs.declared.state.Phase.TheVariants.{Prepare, Confirm, Externalize}
use Rattle.scp_ballot_rules.specs.Own.{own_of, own_in, or_zero, counter_of, StandsFor}
use Rattle.scp_ballot_rules.specs.Owed.{AreAheadOf}
use Rattle.scp_ballot_rules.specs.Ready.{IsPreparing, IsReadyIn, IsReady}
use Rattle.scp_ballot_rules.specs.inside.Rises.{Moves, or_state}
use Rattle.scp_ballot_rules.specs.inside.Rules.{Composes}
use Rattle.scp_ballot_rules.proofs.Options.{some_and, some_same, none_some, some_or_none}
use Rattle.scp_ballot_rules.proofs.Moving.{raised_moves}
use Rattle.scp_ballot.specs.declared.machine.Machine.{Machine}
use Rattle.scp_ballot.specs.declared.balloted.Balloted.{Balloted}
use Rattle.scp_ballot_rules.specs.Told.{ballots_on}
use Rattle.scp_ballot.specs.inside.Machine.{own_at, IsAtRest}
use Rattle.scp_ballot.specs.inside.Gives.{Gives}
use Rattle.scp_ballot.specs.inside.Inputs.{Times, TakesComposite, TakesTimer, TakesStatement}
use Rattle.scp_ballot.specs.inside.Balloter.{ballots_of}
use Rattle.scp_ballot.specs.Balloting.{HasCounter, IsPrepare, TakesValue, IsFirst, MakesFirst}
use Rattle.scp_ballot.proofs.Valuing.{Enters, composite_value}
use Rattle.scp_ballot.proofs.Calling.{has_counter, at_if, at_none}

-- the inputs' part
or_enters : (first : Option State) (s : State) → ((next : State) → first ≡ Some next → Enters s next) → Enters s (or_state first s)
or_enters None s h = λ phase. inl refl
or_enters (Some next) s h = h next refl

composes_enters : (z : List ℕ) (s next : State) → Composes z s next → Enters s next
composes_enters z s next step phase = elim step.present [
  | inl same ↦ inl same.0
  | inr first ↦ inr (inr (λ v e.
      some_and (λ x. x.value ≡ v) next.present (record { counter = 1; value = z }) first.1 (some_same next.composite z v (ap (λ (t : State). t.composite) step.frame) e)))
]

phases_part : (p : Phase) → p ≡ Confirm → p ≡ Prepare → ⊥
phases_part p e f = let k : Confirm ≡ Prepare = sym e ∙ f in cc

times_enters : (s next : State) → IsReady s → Times s next → Enters s next
times_enters s next ready (inl (phase, step), up) at = elim (raised_moves s next (subst (λ ph. IsReadyIn ph s) phase ready) step) [
  | inl high ↦ inr (inl high)
  | inr free ↦ inr (inr free.2)
]
times_enters s next ready (inr (phase, step), up) at = absurd (phases_part s.phase phase (sym (ap (λ (t : State). t.phase) step.frame) ∙ at))

pub composite_enters : (z : List ℕ) (old new : Machine) (given : Balloted) → (takes : TakesComposite z old new given) → Enters old.state (or_state takes.first old.state)
composite_enters z old new given takes =
    or_enters takes.first old.state (λ next e. composes_enters z old.state next (at_if (λ next. (old.state.phase ≡ Prepare) × Composes z old.state next) takes.first next e takes.some).1)

pub timer_enters : (old new : Machine) (given : Balloted) → IsAtRest old → (takes : TakesTimer old new given) → Enters old.state (or_state takes.first old.state)
timer_enters old new given rest takes = or_enters takes.first old.state (λ next e. times_enters old.state next rest.ready (at_if (λ next. Times old.state next) takes.first next e takes.some))

-- what is kept as the composite
module _ (old new : Machine) (given : Balloted) (first : Option State) (gives : Gives old first new given) where
  settled_composite : new.state.composite ≡ (or_state first old.state).composite
  settled_composite = ap (λ (m : Machine). m.state.composite) gives.emits.frame ∙ gives.settles.composite

or_composite : (first : Option State) (s : State) → ((next : State) → first ≡ Some next → next.composite ≡ s.composite) → (or_state first s).composite ≡ s.composite
or_composite None s h = refl
or_composite (Some next) s h = h next refl

times_composite : (s next : State) → Times s next → next.composite ≡ s.composite
times_composite s next (inl (phase, step), up) = ap (λ (t : State). t.composite) step.frame
times_composite s next (inr (phase, step), up) = ap (λ (t : State). t.composite) step.frame

pub timer_composite : (old new : Machine) (given : Balloted) → TakesTimer old new given → new.state.composite ≡ old.state.composite
timer_composite old new given takes =
    settled_composite old new given takes.first takes.gives ∙ or_composite takes.first old.state (λ next e. times_composite old.state next (at_if (λ next. Times old.state next) takes.first next e takes.some))

pub take_composite : (old new : Machine) (given : Balloted) (e : Envelope) (set : QuorumTree) → TakesStatement e set old new given → new.state.composite ≡ old.state.composite
take_composite old new given e set takes = settled_composite takes.mid new given None takes.gives ∙ ap (λ (s : State). s.composite) takes.hears.state

prepare_in : (ph : Phase) (hash : Hash) (s : State) → ph ≡ Prepare → IsPrepare (own_in ph hash s)
prepare_in Prepare hash s e = tt
prepare_in Confirm hash s e = let k : Confirm ≡ Prepare = e in cc
prepare_in Externalize hash s e = let k : Externalize ≡ Prepare = e in cc

in_prepare : (ph : Phase) (hash : Hash) (s : State) → IsPrepare (own_in ph hash s) → ph ≡ Prepare
in_prepare Prepare hash s h = refl
in_prepare Confirm hash s h = absurd h
in_prepare Externalize hash s h = absurd h

module _ (own : Option Pledges) (hash : Hash) (s : State) (stands : StandsFor own hash s) where
  prepares : s.phase ≡ Prepare → ForSome own IsPrepare
  prepares phase p e = elim stands [
    | inl is ↦ subst IsPrepare (some_same own (own_of hash s) p is e) (prepare_in s.phase hash s phase)
    | inr none ↦ none_some own p none.0 e
  ]

  preparing : ForSome own IsPrepare → s.phase ≡ Prepare
  preparing all = elim stands [ inl is ↦ in_prepare s.phase hash s (all (own_of hash s) is) | inr none ↦ none.1.phase ]

  -- without a ballot nothing was said of one
  no_present : IsReady s → (IsSomeAnd own HasCounter → ⊥) → (s.phase ≡ Prepare) × (s.present ≡ None)
  no_present ready none = (
    first s.phase refl,
    elim (some_or_none s.present) [
      | inl p ↦ absurd (none (has_counter own hash s stands (λ phase zero.
          let r : IsPreparing s = subst (λ ph. IsReadyIn ph s) phase ready in (r.present p.0 p.1).0 (ap counter_of (sym p.1) ∙ zero))))
      | inr e ↦ e
    ],
  )
    where
      first : (ph : Phase) → s.phase ≡ ph → s.phase ≡ Prepare
      first Prepare e = e
      first Confirm e = absurd (none (has_counter own hash s stands (λ phase. absurd (phases_part s.phase e phase))))
      first Externalize e = absurd (none (has_counter own hash s stands (λ phase. let k : Externalize ≡ Prepare = sym e ∙ phase in cc)))

first_or_later : (ph : Phase) → (ph ≡ Prepare) ⊎ (ph ≡ Prepare → ⊥)
first_or_later Prepare = inl refl
first_or_later Confirm = inr (λ e. (let k : Confirm ≡ Prepare = e in cc))
first_or_later Externalize = inr (λ e. (let k : Externalize ≡ Prepare = e in cc))

-- what a state in the phase Prepare says of its first ballot
abbrev FirstIn : List ℕ → Seen → State → Type 0
FirstIn z b t = (or_zero t.present ≡ record { counter = 1; value = z }) ⊎ (counter_of t.high ≢ 0) ⊎ (AreAheadOf b 1 × ((or_zero t.present).value ≡ z))

first_said : (z : List ℕ) (b : Seen) (ph : Phase) (hash : Hash) (t : State) → (ph ≡ Prepare → FirstIn z b t) → IsFirst z b (own_in ph hash t)
first_said z b Prepare hash t h = h refl
first_said z b Confirm hash t h = tt
first_said z b Externalize hash t h = tt

first_in : (z : List ℕ) (b : Seen) (next t : State) → next.present ≡ Some (record { counter = 1; value = z }) → t.composite ≡ Some z → Moves b next t → t.phase ≡ Prepare → FirstIn z b t
first_in z b next t present composite moves phase = elim (moves phase) [
  | inl same ↦ inl (ap or_zero (same.0 ∙ present))
  | inr (inl high) ↦ inr (inl high)
  | inr (inr ahead) ↦ inr (inr (subst (λ (o : Option Ballot). AreAheadOf b (counter_of o)) present ahead.0, composite_value t t.present refl ahead.1 z composite))
]

module _ (z : List ℕ) (old new : Machine) (given : Balloted) (f g : Bool) (rest : IsAtRest old) (takes : TakesComposite z old new given) where
  composed : old.state.phase ≡ Prepare → (next : State) × (takes.first ≡ Some next) × Composes z old.state next
  composed phase = elim (some_or_none takes.first) [
    | inl next ↦ (next.0, next.1, (at_if (λ next. (old.state.phase ≡ Prepare) × Composes z old.state next) takes.first next.0 next.1 takes.some).1)
    | inr none ↦ absurd (at_none (old.state.phase ≡ Prepare → ⊥) takes.first none takes.none phase)
  ]

  composite_is : (next : State) → takes.first ≡ Some next → Composes z old.state next → (or_state takes.first old.state).composite ≡ Some z
  composite_is next is step = ap (λ o. (or_state o old.state).composite) is ∙ ap (λ (t : State). t.composite) step.frame

  pub composite_taken : TakesValue z (ballots_of old f) (ballots_of new g)
  composite_taken = elim (first_or_later old.state.phase) [
    | inl phase ↦
        let c = composed phase in
        inl (prepares (own_at old) old.hash old.state rest.stands phase, settled_composite old new given takes.first takes.gives ∙ composite_is c.0 c.1 c.2)
    | inr later ↦ inr (
      (λ all. later (preparing (own_at old) old.hash old.state rest.stands all)),
      settled_composite old new given takes.first takes.gives
          ∙ or_composite takes.first old.state (λ next e. absurd (later (at_if (λ next. (old.state.phase ≡ Prepare) × Composes z old.state next) takes.first next e takes.some).0)),
    )
  ]

  first_at : (IsSomeAnd (own_at old) HasCounter → ⊥) → ForSome (own_at takes.gives.settled) (λ q. IsFirst z (ballots_on old.board) q)
  first_at none q e =
      let now = takes.gives.settled in
      let was = no_present (own_at old) old.hash old.state rest.stands rest.ready none in
      let c = composed was.0 in
      let present : c.0.present ≡ Some (record { counter = 1; value = z }) = elim c.2.present [
        | inl same ↦ (let p = there old.state.present same.1 in none_some old.state.present p.0 was.1 p.1)
        | inr first ↦ first.1
      ] in
      let moves : Moves (ballots_on old.board) c.0 now.state = subst (λ (o : Option State). Moves (ballots_on old.board) (or_state o old.state) now.state) c.1 takes.gives.settles.moves in
      let composite : now.state.composite ≡ Some z = takes.gives.settles.composite ∙ composite_is c.0 c.1 c.2 in
      elim takes.gives.settles.stands [
        | inl is ↦ subst (λ x. IsFirst z (ballots_on old.board) x) (some_same (own_at now) (own_of now.hash now.state) q is e)
            (first_said z (ballots_on old.board) now.state.phase now.hash now.state (first_in z (ballots_on old.board) c.0 now.state present composite moves))
        | inr nothing ↦ none_some (own_at now) q nothing.0 e
      ]
    where
      there : (o : Option Ballot) → IsSome o → (x : Ballot) × (o ≡ Some x)
      there None h = cc
      there (Some x) h = (x, refl)

  pub composite_first : MakesFirst z (ballots_of old f) (ballots_of new g)
  composite_first none = subst (λ (m : Machine). ForSome (own_at m) (λ q. IsFirst z (ballots_on old.board) q)) (sym takes.gives.emits.frame) (first_at none)
