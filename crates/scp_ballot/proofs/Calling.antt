-- What a balloter's calls promise besides what they give.
use Rattle.std.proofs.Common.{◌≡◌, ◌≢◌, ◌<◌, Bool, ℕ, List, Option, Some, None, IsSome, IsSomeAnd, IfSome, IfNone, refl, sym, ◌∙◌, ap, subst, inl, inr, arith}
use Rattle.std.specs.Option.{ForSome}
use Rattle.scp_ballot_rules.specs.scp_types.specs.declared.ballot.Ballot.{Ballot}
use Rattle.scp_ballot_rules.specs.scp_types.specs.declared.names.Hash.{Hash}
use Rattle.scp_ballot_rules.specs.scp_quorum.specs.QuorumTree.{QuorumTree}
use Rattle.scp_ballot_rules.specs.scp_envelope.specs.declared.statement.Pledges.{Pledges}
use Rattle.scp_ballot_rules.specs.scp_envelope.specs.declared.statement.Envelope.{Envelope}
use Rattle.scp_ballot_rules.specs.declared.state.State.{State}
use Rattle.scp_ballot_rules.specs.declared.state.Phase.{Phase}
use Rattle.scp_ballot_rules.specs.declared.state.Phase.TheVariants.{Prepare, Confirm, Externalize}
use Rattle.scp_ballot_rules.specs.Own.{own_of, own_in, or_zero, counter_of, StandsFor}
use Rattle.scp_ballot_rules.specs.Ready.{IsPreparing, IsConfirming, IsReadyIn, IsReady}
use Rattle.scp_ballot_rules.specs.inside.Rises.{place, Rises, or_state}
use Rattle.scp_ballot_rules.specs.inside.Rules.{Composes}
use Rattle.scp_ballot_rules.proofs.Rising.{rises_itself}
use Rattle.scp_ballot_rules.proofs.Options.{some_of, some_and, at_some, some_same, none_some, some_or_none}
use Rattle.scp_ballot.specs.declared.machine.Machine.{Machine}
use Rattle.scp_ballot.specs.declared.balloted.Balloted.{Balloted}
use Rattle.scp_ballot_rules.specs.Told.{ballots_on}
use Rattle.scp_ballot.specs.inside.Machine.{own_at, IsAtRest}
use Rattle.scp_ballot.specs.inside.Gives.{Gives}
use Rattle.scp_ballot.specs.inside.Inputs.{Times, CannotRaise, TakesComposite, TakesTimer, TakesStatement}
use Rattle.scp_ballot.specs.inside.Balloter.{ballots_of}
use Rattle.scp_ballot.specs.Balloting.{HasCounter, HasBallot, KeepsOthers, IsRaised}
use Rattle.scp_ballot.proofs.Others.{keeps_others}
use Rattle.scp_ballot.proofs.Heard.{heard_rests, own_heard}

zero_counter : (o : Option Ballot) → (or_zero o).counter ≡ counter_of o
zero_counter None = refl
zero_counter (Some x) = refl

-- a statement in the phase Prepare has a counter
abbrev pub CountsIn : State → Type 0
CountsIn s = s.phase ≡ Prepare → counter_of s.present ≢ 0

pub counts_in : (ph : Phase) (hash : Hash) (s : State) → (ph ≡ Prepare → counter_of s.present ≢ 0) → HasCounter (own_in ph hash s)
counts_in Prepare hash s h = λ zero. h refl (sym (zero_counter s.present) ∙ zero)
counts_in Confirm hash s h = tt
counts_in Externalize hash s h = tt

in_counts : (ph : Phase) (hash : Hash) (s : State) → HasCounter (own_in ph hash s) → ph ≡ Prepare → counter_of s.present ≢ 0
in_counts Prepare hash s h e zero = h (zero_counter s.present ∙ zero)
in_counts Confirm hash s h e zero = let k : Confirm ≡ Prepare = e in cc
in_counts Externalize hash s h e zero = let k : Externalize ≡ Prepare = e in cc

module _ (own : Option Pledges) (hash : Hash) (s : State) (stands : StandsFor own hash s) where
  pub has_counter : CountsIn s → IsSomeAnd own HasCounter
  has_counter counts = elim stands [
    | inl e ↦ some_and HasCounter own (own_of hash s) e (counts_in s.phase hash s counts)
    | inr none ↦ absurd (counts none.1.phase (ap counter_of none.1.present))
  ]

  counter_had : IsSomeAnd own HasCounter → CountsIn s
  counter_had h e zero = elim stands [
    | inl is ↦ in_counts s.phase hash s (at_some HasCounter own (own_of hash s) is h) e zero
    | inr none ↦ (let p = some_of HasCounter own h in none_some own p.0 none.0 p.1)
  ]

rises_counts : (s t : State) → Rises s t → CountsIn s → CountsIn t
rises_counts s t (inl later) counts e = absurd (omega (arith, later, ap place e))
rises_counts s t (inr same) counts e = λ zero. (let n : counter_of s.present ≢ 0 = counts (sym same.0 ∙ e) in omega (arith, n, same.1, zero))

module _ (old new : Machine) (given : Balloted) (first : Option State) (rest : IsAtRest old) (gives : Gives old first new given) where
  pub others_kept : KeepsOthers (ballots_on old.board) (ballots_on new.board)
  others_kept = subst (λ (m : Machine). KeepsOthers (ballots_on old.board) (ballots_on m.board)) (sym gives.emits.frame) (keeps_others (ballots_on old.board) (ballots_on gives.settled.board) (own_at gives.settled) gives.settles.chain.board)

  ballot_from : CountsIn (or_state first old.state) → IsSomeAnd (own_at new) HasCounter
  ballot_from counts = subst (λ (m : Machine). IsSomeAnd (own_at m) HasCounter) (sym gives.emits.frame)
      (has_counter (own_at gives.settled) gives.settled.hash gives.settled.state gives.settles.stands (rises_counts (or_state first old.state) gives.settled.state gives.settles.rises counts))

  -- the present ballot counts where the state changed, and else as before
  pub ballot_after : ((next : State) → first ≡ Some next → CountsIn next) → (first ≡ None → CountsIn old.state) → IsSomeAnd (own_at new) HasCounter
  ballot_after some none = elim (some_or_none first) [
    | inl next ↦ ballot_from (subst (λ (o : Option State). CountsIn (or_state o old.state)) (sym next.1) (some next.0 next.1))
    | inr e ↦ ballot_from (subst (λ (o : Option State). CountsIn (or_state o old.state)) (sym e) (none e))
  ]

pub at_if : {A : Type 0} (P : A → Type 0) (o : Option A) (x : A) → o ≡ Some x → IfSome o P → P x
at_if {A} P o x e h = let Q : Option A → Type 0 = λ o. IfSome o P in subst Q e h

pub at_none : {A : Type 0} (P : Type 0) (o : Option A) → o ≡ None → IfNone o P → P
at_none {A} P o e h = let Q : Option A → Type 0 = λ o. IfNone o P in subst Q e h

composed_counts : (z : List ℕ) (s next : State) → IsReady s → s.phase ≡ Prepare → Composes z s next → CountsIn next
composed_counts z s next ready phase step e zero =
    let r : IsPreparing s = subst (λ ph. IsReadyIn ph s) phase ready in
    elim step.present [
      | inl same ↦ (let p = some_there s.present same.1 in (r.present p.0 p.1).0 (ap counter_of (sym p.1) ∙ ap counter_of (sym same.0) ∙ zero))
      | inr first ↦ (let one : counter_of next.present ≡ 1 = ap counter_of first.1 in omega (arith, one, zero))
    ]
  where
    some_there : (o : Option Ballot) → IsSome o → (x : Ballot) × (o ≡ Some x)
    some_there None h = cc
    some_there (Some x) h = (x, refl)

pub composite_ballot : (z : List ℕ) (old new : Machine) (given : Balloted) (f : Bool) → IsAtRest old → TakesComposite z old new given → HasBallot (ballots_of new f)
composite_ballot z old new given f rest takes =
    ballot_after old new given takes.first rest takes.gives
    (λ next e. let h = at_if (λ next. (old.state.phase ≡ Prepare) × Composes z old.state next) takes.first next e takes.some in composed_counts z old.state next rest.ready h.0 h.1)
    (λ e phase. absurd (at_none (old.state.phase ≡ Prepare → ⊥) takes.first e takes.none phase))

pub times_phase : (s next : State) → Times s next → next.phase ≡ s.phase
times_phase s next (inl (phase, step), up) = ap (λ (t : State). t.phase) step.frame
times_phase s next (inr (phase, step), up) = ap (λ (t : State). t.phase) step.frame

pub timer_ballot : (old new : Machine) (given : Balloted) (f g : Bool) → IsAtRest old → TakesTimer old new given → HasBallot (ballots_of old f) → HasBallot (ballots_of new g)
timer_ballot old new given f g rest takes had =
    ballot_after old new given takes.first rest takes.gives
    (λ next e. λ phase zero. let h = at_if (λ next. Times old.state next) takes.first next e takes.some in omega (arith, h.1, zero))
    (λ e. counter_had (own_at old) old.hash old.state rest.stands had)

pub take_ballot : (old new : Machine) (given : Balloted) (e : Envelope) (set : QuorumTree) (f g : Bool) → IsAtRest old → TakesStatement e set old new given → HasBallot (ballots_of old f) → HasBallot (ballots_of new g)
take_ballot old new given e set f g rest takes had =
    let mid = heard_rests old takes.mid e set takes.hears rest in
    ballot_after takes.mid new given None mid takes.gives
    (λ next e. none_some None next refl e)
    (λ n. counter_had (own_at takes.mid) takes.mid.hash takes.mid.state mid.stands (subst (λ o. IsSomeAnd o HasCounter) (sym (own_heard old takes.mid e set takes.hears)) had))

-- an input leaves the phase as it is
or_phase : (first : Option State) (s : State) → ((next : State) → first ≡ Some next → next.phase ≡ s.phase) → (or_state first s).phase ≡ s.phase
or_phase None s h = refl
or_phase (Some next) s h = h next refl

pub composite_phase : (z : List ℕ) (old new : Machine) (given : Balloted) → (takes : TakesComposite z old new given) → (or_state takes.first old.state).phase ≡ old.state.phase
composite_phase z old new given takes =
    or_phase takes.first old.state (λ next e. ap (λ (t : State). t.phase) (at_if (λ next. (old.state.phase ≡ Prepare) × Composes z old.state next) takes.first next e takes.some).1.frame)

-- an input brings no way back
or_rises : (first : Option State) (s : State) → ((next : State) → first ≡ Some next → Rises s next) → Rises s (or_state first s)
or_rises None s h = rises_itself s
or_rises (Some next) s h = h next refl

composes_rises : (z : List ℕ) (s next : State) → Composes z s next → Rises s next
composes_rises z s next step = inr (
  ap (λ (t : State). t.phase) step.frame,
  elim step.present [
    | inl same ↦ (let e : counter_of next.present ≡ counter_of s.present = ap counter_of same.0 in omega (arith, e))
    | inr first ↦ (let e : counter_of s.present ≡ 0 = ap counter_of first.0 in omega (arith, e))
  ],
)

times_rises : (s next : State) → Times s next → Rises s next
times_rises s next times = inr (times_phase s next times, omega (arith, times.1))

pub composite_rises : (z : List ℕ) (old new : Machine) (given : Balloted) → (takes : TakesComposite z old new given) → Rises old.state (or_state takes.first old.state)
composite_rises z old new given takes =
    or_rises takes.first old.state (λ next e. composes_rises z old.state next (at_if (λ next. (old.state.phase ≡ Prepare) × Composes z old.state next) takes.first next e takes.some).1)

pub timer_rises : (old new : Machine) (given : Balloted) → (takes : TakesTimer old new given) → Rises old.state (or_state takes.first old.state)
timer_rises old new given takes = or_rises takes.first old.state (λ next e. times_rises old.state next (at_if (λ next. Times old.state next) takes.first next e takes.some))

pub timer_phase : (old new : Machine) (given : Balloted) → (takes : TakesTimer old new given) → (or_state takes.first old.state).phase ≡ old.state.phase
timer_phase old new given takes = or_phase takes.first old.state (λ next e. times_phase old.state next (at_if (λ next. Times old.state next) takes.first next e takes.some))

-- the counter of an own statement within its phase
raised_in : (ph qh : Phase) (hash other : Hash) (s t : State) → ((ph ≡ qh) → (ph ≡ Externalize → ⊥) → counter_of s.present ≢ 0 → counter_of s.present ≢ 4294967295 → counter_of s.present < counter_of t.present) → IsRaised (own_in ph hash s) (own_in qh other t)
raised_in Prepare Prepare hash other s t h = λ counted top. (let k = h refl (λ e. (let j : Prepare ≡ Externalize = e in cc)) (λ e. counted (zero_counter s.present ∙ e)) (λ e. top (zero_counter s.present ∙ e)) in omega (arith, k, zero_counter s.present, zero_counter t.present))
raised_in Prepare Confirm hash other s t h = tt
raised_in Prepare Externalize hash other s t h = tt
raised_in Confirm Prepare hash other s t h = tt
raised_in Confirm Confirm hash other s t h = λ counted top. (let k = h refl (λ e. (let j : Confirm ≡ Externalize = e in cc)) (λ e. counted (zero_counter s.present ∙ e)) (λ e. top (zero_counter s.present ∙ e)) in omega (arith, k, zero_counter s.present, zero_counter t.present))
raised_in Confirm Externalize hash other s t h = tt
raised_in Externalize Prepare hash other s t h = tt
raised_in Externalize Confirm hash other s t h = tt
raised_in Externalize Externalize hash other s t h = tt

can_raise : (s : State) → IsReady s → (s.phase ≡ Externalize → ⊥) → counter_of s.present ≢ 0 → counter_of s.present ≢ 4294967295 → CannotRaise s → ⊥
can_raise s ready phase counted top (inl at_top) = top at_top
can_raise s ready phase counted top (inr (inl (preparing, none))) =
    let r : IsPreparing s = subst (λ ph. IsReadyIn ph s) preparing ready in
    elim (some_or_none s.present) [ inl p ↦ none (r.present p.0 p.1).1 | inr e ↦ counted (ap counter_of e) ]
can_raise s ready phase counted top (inr (inr (inl (confirming, none)))) =
    let r : IsConfirming s = subst (λ ph. IsReadyIn ph s) confirming ready in
    let c = some_of _ s.low r.range in none_some s.low c.0 none c.1
can_raise s ready phase counted top (inr (inr (inr done))) = phase done

pub timer_raises : (old new : Machine) (given : Balloted) (f g : Bool) → IsAtRest old → TakesTimer old new given → ForSome (own_at old) (λ p. ForSome (own_at new) (λ q. IsRaised p q))
timer_raises old new given f g rest takes = subst (λ (m : Machine). ForSome (own_at old) (λ p. ForSome (own_at m) (λ q. IsRaised p q))) (sym takes.gives.emits.frame) raised
  where
    now : Machine
    now = takes.gives.settled

    up : (old.state.phase ≡ now.state.phase) → (old.state.phase ≡ Externalize → ⊥) → counter_of old.state.present ≢ 0 → counter_of old.state.present ≢ 4294967295 → counter_of old.state.present < counter_of now.state.present
    up same phase counted top = elim (some_or_none takes.first) [
      | inl next ↦
          let h = at_if (λ next. Times old.state next) takes.first next.0 next.1 takes.some in
          let rises : Rises next.0 now.state = subst (λ (o : Option State). Rises (or_state o old.state) now.state) next.1 takes.gives.settles.rises in
          elim rises [
            | inl later ↦ absurd (omega (arith, later, ap place (times_phase old.state next.0 h), ap place same))
            | inr stays ↦ omega (arith, stays.1, h.1)
          ]
      | inr none ↦ absurd (can_raise old.state rest.ready phase counted top (at_none (CannotRaise old.state) takes.first none takes.none))
    ]

    raised : ForSome (own_at old) (λ p. ForSome (own_at now) (λ q. IsRaised p q))
    raised p e q k = elim rest.stands [
      | inr none ↦ none_some (own_at old) p none.0 e
      | inl is ↦ elim takes.gives.settles.stands [
        | inr none ↦ none_some (own_at now) q none.0 k
        | inl there ↦ subst (λ x. IsRaised x q) (some_same (own_at old) (own_of old.hash old.state) p is e) (subst (λ y. IsRaised (own_of old.hash old.state) y) (some_same (own_at now) (own_of now.hash now.state) q there k)
            (raised_in old.state.phase now.state.phase old.hash now.hash old.state now.state up))
      ]
    ]
