-- What an input comes to is what the protocol says.
use Rattle.std.proofs.Common.{◌≡◌, ◌≢◌, ◌+◌, ◌⊎◌, ◌↔◌, ◌<◌, ◌≤◌, Bool, cond, ℕ, List, Option, Some, None, IsSome, IsSomeAnd, true, false, refl, sym, ◌∙◌, ap, subst, inl, inr, arith}
use Rattle.std.specs.Option.{ForSome, option_map}
use Rattle.std.specs.BTreeMap.{is_at}
use Rattle.std.proofs.Math.Path.{fun_ext}
use Rattle.scp_ballot_rules.specs.scp_types.specs.declared.ballot.Ballot.{Ballot}
use Rattle.scp_ballot_rules.specs.scp_types.specs.declared.names.Hash.{Hash}
use Rattle.scp_ballot_rules.specs.scp_types.specs.declared.names.NodeId.{NodeId}
use Rattle.scp_ballot_rules.specs.scp_quorum.specs.NodeSet.{node_cmp}
use Rattle.scp_ballot_rules.specs.scp_quorum.specs.QuorumTree.{QuorumTree}
use Rattle.scp_ballot_rules.specs.scp_envelope.specs.Sane.{AreApart, IsSane}
use Rattle.scp_ballot_rules.specs.scp_envelope.specs.Newer.{ArePledgesNewer}
use Rattle.scp_ballot_rules.specs.scp_envelope.specs.declared.statement.Pledges.{Pledges}
use Rattle.scp_ballot_rules.specs.scp_envelope.specs.declared.statement.Statement.{Statement}
use Rattle.scp_ballot_rules.specs.scp_envelope.specs.declared.statement.Envelope.{Envelope}
use Rattle.scp_ballot_rules.specs.scp_vote.specs.Board.{Seen, KeepsOwn}
use Rattle.scp_ballot_rules.specs.scp_vote.specs.Licence.{with_own}
use Rattle.scp_ballot_rules.specs.scp_vote.proofs.Chain.{same_at}
use Rattle.scp_ballot_rules.specs.declared.state.State.{State}
use Rattle.scp_ballot_rules.specs.declared.state.Phase.{Phase}
use Rattle.scp_ballot_rules.specs.declared.state.Phase.TheVariants.{Prepare, Confirm, Externalize}
use Rattle.scp_ballot_rules.specs.Order.{AtMost, FitsUnder}
use Rattle.scp_ballot_rules.specs.Own.{own_of, own_in, or_zero, counter_of, StandsFor}
use Rattle.scp_ballot_rules.specs.Ready.{IsLowUnder, NoneOver, IsPreparing, IsConfirming, IsExternalized, IsReadyIn, IsReady}
use Rattle.scp_ballot_rules.specs.inside.Rises.{or_state}
use Rattle.scp_ballot_rules.specs.inside.Rules.{Composes}
use Rattle.scp_ballot_rules.specs.RaiseCounter.{RaiseTo}
use Rattle.scp_ballot_rules.specs.Steps.{Answers, renewed, Settles}
use Rattle.scp_ballot_rules.specs.Inputs.{Composed, Compose, Time, AfterInput}
use Rattle.scp_ballot_rules.proofs.Options.{some_of, some_and, some_same, none_some, some_or_none, has_some}
use Rattle.scp_ballot_rules.proofs.Order.{values_decided, at_most_counter}
use Rattle.scp_ballot.specs.declared.machine.Machine.{Machine}
use Rattle.scp_ballot.specs.declared.balloted.Balloted.{Balloted}
use Rattle.scp_ballot_rules.specs.Told.{ballots_on}
use Rattle.scp_ballot.specs.inside.Machine.{own_at, IsAtRest}
use Rattle.scp_ballot.specs.inside.Exactly.{ComesTo}
use Rattle.scp_ballot.specs.inside.Gives.{Gives}
use Rattle.scp_ballot.specs.inside.Inputs.{TakesComposite, TakesTimer, TakesStatement}
use Rattle.scp_ballot.specs.inside.Balloter.{ballots_of}
use Rattle.scp_ballot.specs.Balloting.{Ballots, IsWorthTelling, Advances}
use Rattle.scp_ballot.specs.Outcome.{IsToEmit, ComesOut, ComposesExactly, TimesExactly, HearsExactly}
use Rattle.scp_ballot.proofs.Calling.{at_if, at_none}
use Rattle.scp_ballot.proofs.Advancing.{gives_rests}
use Rattle.scp_ballot.proofs.Taking.{take_mid, take_heard}
use Rattle.scp_ballot.proofs.Heard.{heard_rests}

-- a ready state with a ballot, or in a later phase, has a sane statement
positive : (n : ℕ) → n ≢ 0 → 0 < n
positive n h = omega (arith, h)

apart : (o p : Option Ballot) → ForSome p (λ x. IsSomeAnd o (λ y. FitsUnder x y)) → AreApart o p
apart None p h = tt
apart (Some y) None h = tt
apart (Some y) (Some x) h = h x refl

high_within : (high prepared confirmed present : Option Ballot) → ForSome high (λ h. IsSomeAnd confirmed (λ w. AtMost h w) × IsSomeAnd present (λ b. h.value ≡ b.value)) → ForSome confirmed (λ w. IsSomeAnd present (λ b. AtMost w b) × IsSomeAnd prepared (λ p. AtMost w p))
    → (counter_of high ≡ 0) ⊎ (IsSomeAnd prepared (λ p. counter_of high ≤ p.counter) × (counter_of high ≤ counter_of present))
high_within None prepared confirmed present h k = inl refl
high_within (Some x) prepared confirmed present h k =
    let w = some_of (λ w. AtMost x w) confirmed (h x refl).0 in
    let under = k w.0 w.1 in
    let b = some_of (λ b. AtMost w.0 b) present under.0 in
    let p = some_of (λ p. AtMost w.0 p) prepared under.1 in
    let le : x.counter ≤ w.0.counter = at_most_counter x w.0 w.2 in
    let le_present : w.0.counter ≤ b.0.counter = at_most_counter w.0 b.0 b.2 in
    let le_prepared : w.0.counter ≤ p.0.counter = at_most_counter w.0 p.0 p.2 in
    let same : counter_of present ≡ b.0.counter = ap counter_of b.1 in
    inr (some_and (λ p. x.counter ≤ p.counter) prepared p.0 p.1 (omega (arith, le, le_prepared)), omega (arith, le, le_present, same))

zero_counter : (o : Option Ballot) → (or_zero o).counter ≡ counter_of o
zero_counter None = refl
zero_counter (Some x) = refl

low_within : (low high : Option Ballot) (s : State) → ForSome low (λ c. IsSomeAnd high (λ h. IsLowUnder c h × NoneOver s h)) → (counter_of low ≡ 0) ⊎ ((counter_of high ≢ 0) × (counter_of low ≤ counter_of high))
low_within None high s h = inl refl
low_within (Some c) high s h =
    let x = some_of (λ h. IsLowUnder c h × NoneOver s h) high (h c refl) in
    let some : c.counter ≢ 0 = x.2.0.0 in
    let le : c.counter ≤ x.0.counter = x.2.0.2 in
    let same : counter_of high ≡ x.0.counter = ap counter_of x.1 in
    inr ((λ zero. omega (arith, some, le, same, zero)), omega (arith, le, same))

prepare_sane : (hash : Hash) (s : State) → IsPreparing s → IsSome s.present → IsSane (own_in Prepare hash s)
prepare_sane hash s ready there =
    let x = has_some s.present there in
    let some : x.0.counter ≢ 0 = (ready.present x.0 x.1).0 in
    let same : (or_zero s.present).counter ≡ x.0.counter = ap (λ o. (or_zero o).counter) x.1 in
    let within = high_within s.high s.prepared s.confirmed s.present ready.high ready.confirmed in
    record {
      counted = omega (arith, some, same);
      apart = apart s.prepared s.prime ready.prime;
      high = elim within [ inl zero ↦ inl zero | inr h ↦ inr h.0 ];
      commit = elim (low_within s.low s.high s ready.low) [
        | inl zero ↦ inl zero
        | inr low ↦ elim within [
          | inl zero ↦ absurd (low.0 zero)
          | inr h ↦ inr (low.0, low.1, subst (λ n. counter_of s.high ≤ n) (sym (zero_counter s.present)) h.1)
        ]
      ];
    }

confirm_sane : (hash : Hash) (s : State) → IsConfirming s → IsSane (own_in Confirm hash s)
confirm_sane hash s ready =
    let c = some_of (λ c. IsSomeAnd s.high (λ h. IsLowUnder c h × IsSomeAnd s.present (λ b. (h.value ≡ b.value) × (h.counter ≤ b.counter)))) s.low ready.range in
    let h = some_of (λ h. IsLowUnder c.0 h × IsSomeAnd s.present (λ b. (h.value ≡ b.value) × (h.counter ≤ b.counter))) s.high c.2 in
    let p = some_of (λ b. (h.0.value ≡ b.value) × (h.0.counter ≤ b.counter)) s.present h.2.1 in
    let some : c.0.counter ≢ 0 = h.2.0.0 in
    let ascends : c.0.counter ≤ h.0.counter = h.2.0.2 in
    let below : h.0.counter ≤ p.0.counter = p.2.1 in
    let low : counter_of s.low ≡ c.0.counter = ap counter_of c.1 in
    let high : counter_of s.high ≡ h.0.counter = ap counter_of h.1 in
    let present : (or_zero s.present).counter ≡ p.0.counter = ap (λ o. (or_zero o).counter) p.1 in
    record { counted = omega (arith, some, ascends, below, present); high = omega (arith, below, high, present); commit = omega (arith, ascends, low, high) }

externalize_sane : (hash : Hash) (s : State) → IsExternalized s → IsSane (own_in Externalize hash s)
externalize_sane hash s ready =
    let c = some_of (λ c. IsSomeAnd s.high (λ h. IsLowUnder c h)) s.low ready.range in
    let h = some_of (λ h. IsLowUnder c.0 h) s.high c.2 in
    let some : c.0.counter ≢ 0 = h.2.0 in
    let ascends : c.0.counter ≤ h.0.counter = h.2.2 in
    let low : (or_zero s.low).counter ≡ c.0.counter = ap (λ o. (or_zero o).counter) c.1 in
    let high : counter_of s.high ≡ h.0.counter = ap counter_of h.1 in
    record { counted = omega (arith, some, low); high = omega (arith, ascends, low, high) }

sane_in : (p : Phase) (hash : Hash) (s : State) → IsReadyIn p s → IsSome s.present ⊎ (p ≢ Prepare) → IsSane (own_in p hash s)
sane_in Prepare hash s ready (inl there) = prepare_sane hash s ready there
sane_in Prepare hash s ready (inr later) = absurd (later refl)
sane_in Confirm hash s ready h = confirm_sane hash s ready
sane_in Externalize hash s ready h = externalize_sane hash s ready

in_sane : (p : Phase) (hash : Hash) (s : State) → IsSane (own_in p hash s) → IsSome s.present ⊎ (p ≢ Prepare)
in_sane Prepare hash s sane = elim (some_or_none s.present) [
  | inl (x, e) ↦ inl (subst (λ o. IsSome o) (sym e) refl)
  | inr none ↦ absurd (let counted : 0 < (or_zero s.present).counter = sane.counted in let zero : (or_zero s.present).counter ≡ 0 = ap (λ o. (or_zero o).counter) none in omega (arith, counted, zero))
]
in_sane Confirm hash s sane = inr (λ e. let k : Confirm ≡ Prepare = e in cc)
in_sane Externalize hash s sane = inr (λ e. let k : Externalize ≡ Prepare = e in cc)

module _ (own : Option Pledges) (hash : Hash) (s : State) (stands : StandsFor own hash s) (last : Option Pledges) where
  abbrev Emits : Type 0
  Emits = (IsSome s.present ⊎ (s.phase ≢ Prepare)) × ForSome last (λ p. ArePledgesNewer p (own_of hash s))

  own_same : (p : Pledges) → own ≡ Some p → p ≡ own_of hash s
  own_same p e = elim stands [ inl is ↦ some_same own p (own_of hash s) e is | inr none ↦ none_some own p none.0 e ]

  worth_emits : IsWorthTelling last own → Emits
  worth_emits h =
      let q = some_of (λ q. IsSane q × ForSome last (λ p. ArePledgesNewer p q)) own h in
      let worth : IsSane (own_of hash s) × ForSome last (λ p. ArePledgesNewer p (own_of hash s)) = subst (λ q. IsSane q × ForSome last (λ p. ArePledgesNewer p q)) (own_same q.0 q.1) q.2 in
      (in_sane s.phase hash s worth.0, worth.1)

  emits_worth : IsReady s → Emits → IsWorthTelling last own
  emits_worth ready h = elim stands [
    | inl is ↦ some_and (λ q. IsSane q × ForSome last (λ p. ArePledgesNewer p q)) own (own_of hash s) is (sane_in s.phase hash s ready h.0, h.1)
    | inr none ↦ absurd (elim h.0 [
      | inl there ↦ (let x = has_some s.present there in none_some s.present x.0 none.1.present x.1)
      | inr later ↦ later none.1.phase
    ])
  ]

-- the board that has the own statement is the board with it
module _ (b : Seen) (p : Pledges) (keeps : KeepsOwn b) (is : b.statement b.me ≡ Some p) where
  at_own : {A : Type 0} (f : NodeId → A) (x : A) → f b.me ≡ x → (v : NodeId) (t : Bool) → is_at (node_cmp b.me) v ≡ t → cond t x (f v) ≡ f v
  at_own f x e v true here = sym e ∙ ap f (same_at b.me v here)
  at_own f x e v false away = refl

  stands_renewed : with_own b (Some p) ≡ b
  stands_renewed =
      ap (λ (f : NodeId → Option Pledges). let d : Seen = record { me = b.me; local = b.local; statement = f; counted = λ v. cond (is_at (node_cmp b.me) v) (Some b.local) (b.counted v) } in d)
      (fun_ext (λ v. at_own b.statement (Some p) is v (is_at (node_cmp b.me) v) refl))
      ∙ ap (λ (f : NodeId → Option QuorumTree). let d : Seen = record { me = b.me; local = b.local; statement = b.statement; counted = f } in d)
      (fun_ext (λ v. at_own b.counted (Some b.local) (keeps ∙ ap (option_map (λ _. b.local)) is) v (is_at (node_cmp b.me) v) refl))

-- the input changed the state, or its own statement is on the board
abbrev Changes : Machine → Option State → Type 0
Changes m first = (next : State) → first ≡ Some next → (next ≢ m.state) ⊎ ((next ≡ m.state) × (own_at m ≡ Some (own_of m.hash m.state)))

after_by : (m : Machine) (first : Option State) (c : Seen) (t : State) (more : Bool) → KeepsOwn (ballots_on m.board) → ComesTo m first c t more → Changes m first → AfterInput m.hash (ballots_on m.board) m.state (or_state first m.state) c t more
after_by m None c t more keeps comes changes = record { start = ballots_on m.board; renews = inr ((λ differs. differs refl), refl); settles = comes }
after_by m (Some s) c t more keeps comes changes = elim (changes s refl) [
  | inl differs ↦ record { start = renewed m.hash (ballots_on m.board) s; renews = inl (differs, refl); settles = comes }
  | inr same ↦
      let stays : renewed m.hash (ballots_on m.board) s ≡ ballots_on m.board =
      ap (λ x. renewed m.hash (ballots_on m.board) x) same.0 ∙ stands_renewed (ballots_on m.board) (own_of m.hash m.state) keeps same.1 in
      record { start = ballots_on m.board; renews = inr ((λ differs. differs same.0), refl); settles = subst (λ b. Settles 64 m.hash b s c t more) stays comes }
]

module _ (makes : State → State → Type 0) (old new : Machine) (given : Balloted) (first : Option State) (f g : Bool) (rest : IsAtRest old) (gives : Gives old first new given) where
  pub comes_out : Advances (ballots_of old f) (ballots_of new g) given → makes old.state (or_state first old.state) → Changes old first → ComesOut makes (ballots_on old.board) (ballots_of old f) (ballots_of new g) given
  comes_out advances made changes =
      let after = gives_rests old new given first rest gives in
      let last : Option Pledges = option_map (λ (s : Statement). s.pledges) old.emitted in
      record {
        mid = or_state first old.state;
        made = made;
        after = after_by old first (ballots_on new.board) new.state given.more rest.keeps (subst (λ (m : Machine). ComesTo old first (ballots_on m.board) m.state given.more) (sym gives.emits.frame) gives.exact) changes;
        stands = after.stands;
        composite = refl;
        emitted = (
          λ h. worth_emits (own_at new) new.hash new.state after.stands last (advances.emitted.0 h),
          λ h. advances.emitted.1 (emits_worth (own_at new) new.hash new.state after.stands last after.ready h),
        );
        statement = λ e is. own_same (own_at new) new.hash new.state after.stands last e.statement.pledges (advances.statement e is).stands;
      }

-- a composite
composed_exactly : (z : List ℕ) (s next : State) → Composes z s next → Composed z s next
composed_exactly z s next step = record {
  frame = step.frame;
  present = elim step.present [
    | inl same ↦ inr (λ none. (let x = has_some s.present same.1 in none_some s.present x.0 none x.1), same.0)
    | inr first ↦ inl first
  ];
}

later_same : (p : Phase) (z : List ℕ) (s : State) → (p ≡ Prepare → ⊥) → Compose p z s s
later_same Prepare z s later = absurd (later refl)
later_same Confirm z s later = refl
later_same Externalize z s later = refl

composite_is : (o : Option (List ℕ)) (z : List ℕ) → (o ≡ Some z) ⊎ (o ≢ Some z)
composite_is None z = inr (λ e. cc)
composite_is (Some y) z = elim (values_decided y z) [ inl same ↦ inl (ap Some same) | inr apart ↦ inr (λ e. apart (some_same (Some y) y z refl e)) ]

module _ (z : List ℕ) (old new : Machine) (given : Balloted) (f g : Bool) (rest : IsAtRest old) (takes : TakesComposite z old new given) where
  composed_by : (o : Option State) → takes.first ≡ o → Compose old.state.phase z old.state (or_state o old.state)
  composed_by None e = later_same old.state.phase z old.state (at_none (old.state.phase ≡ Prepare → ⊥) takes.first e takes.none)
  composed_by (Some next) e =
      let h = at_if (λ next. (old.state.phase ≡ Prepare) × Composes z old.state next) takes.first next e takes.some in
      subst (λ p. Compose p z old.state next) (sym h.0) (composed_exactly z old.state next h.1)

  composite_changes : Changes old takes.first
  composite_changes next e =
      let h = at_if (λ next. (old.state.phase ≡ Prepare) × Composes z old.state next) takes.first next e takes.some in
      elim h.1.present [
        | inr first ↦ inl (λ same. none_some old.state.present _ first.0 (ap (λ (x : State). x.present) (sym same) ∙ first.1))
        | inl kept ↦ elim (composite_is old.state.composite z) [
          | inr other ↦ inl (λ same. other (ap (λ (x : State). x.composite) (sym same) ∙ ap (λ (x : State). x.composite) h.1.frame))
          | inl is ↦ inr (
            h.1.frame
                ∙ ap (λ (o : Option Ballot). let r : State = record old.state { present = o; composite = Some z } in r) kept.0
                ∙ ap (λ (o : Option (List ℕ)). let r : State = record old.state { composite = o } in r) (sym is),
            elim rest.stands [
              | inl there ↦ there
              | inr none ↦ (let x = has_some old.state.present kept.1 in none_some old.state.present x.0 none.1.present x.1)
            ],
          )
        ]
      ]

  pub composite_comes : Advances (ballots_of old f) (ballots_of new g) given → ComposesExactly z (ballots_of old f) (ballots_of new g) given
  composite_comes advances = comes_out (λ s t. Compose s.phase z s t) old new given takes.first f g rest takes.gives advances (composed_by takes.first refl) composite_changes

-- a timer
pub time_raises : (n : ℕ) (s : State) (o : Option State) → n ≡ counter_of s.present + 1 → counter_of s.present ≢ 4294967295 → Answers (λ s t. RaiseTo n s t) s o → Answers (λ s t. Time s t) s o
time_raises n s None is below h = inr (below, subst (λ n. RaiseTo n s s) is h)
time_raises n s (Some t) is below h = (inr (below, subst (λ n. RaiseTo n s t) is h.0), h.1)

timed_by : (s : State) (o : Option State) → Answers (λ s t. Time s t) s o → Time s (or_state o s)
timed_by s None h = h
timed_by s (Some t) h = h.0

timed_changes : (m : Machine) (o : Option State) → Answers (λ s t. Time s t) m.state o → Changes m o
timed_changes m None h next e = none_some None next refl e
timed_changes m (Some t) h next e = inl (subst (λ x. x ≢ m.state) (some_same (Some t) t next refl e) h.1)

pub timer_comes : (old new : Machine) (given : Balloted) (f g : Bool) → IsAtRest old → (takes : TakesTimer old new given) → Advances (ballots_of old f) (ballots_of new g) given → TimesExactly (ballots_of old f) (ballots_of new g) given
timer_comes old new given f g rest takes advances =
    comes_out (λ s t. Time s t) old new given takes.first f g rest takes.gives advances (timed_by old.state takes.first takes.exact) (timed_changes old takes.first takes.exact)

-- another node's statement
comes_from : (makes : State → State → Type 0) (board : Seen) (old mid new : Ballots) (given : Balloted) → mid.hash ≡ old.hash → mid.state ≡ old.state → mid.emitted ≡ old.emitted → ComesOut makes board mid new given → ComesOut makes board old new given
comes_from makes board old mid new given hash state emitted c = record {
  mid = c.mid;
  made = subst (λ s. makes s c.mid) state c.made;
  after = subst (λ h. AfterInput h board old.state c.mid new.board new.state given.more) hash (subst (λ s. AfterInput mid.hash board s c.mid new.board new.state given.more) state c.after);
  stands = c.stands;
  composite = c.composite;
  emitted = subst (λ o. IsSome given.statement ↔ IsToEmit o new) emitted c.emitted;
  statement = c.statement;
}

pub take_comes : (old new : Machine) (given : Balloted) (e : Envelope) (set : QuorumTree) (f g : Bool) → IsAtRest old → TakesStatement e set old new given → HearsExactly e set (ballots_of old f) (ballots_of new g) given
take_comes old new given e set f g rest takes = record {
  board = ballots_on takes.mid.board;
  hears = take_heard old new given e set f g rest takes;
  comes = comes_from (λ s t. t ≡ s) (ballots_on takes.mid.board) (ballots_of old f) (ballots_of takes.mid f) (ballots_of new g) given takes.hears.rest.hash takes.hears.state (ap (option_map (λ (s : Statement). s.pledges)) takes.hears.rest.emitted)
      (comes_out (λ s t. t ≡ s) takes.mid new given None f g (heard_rests old takes.mid e set takes.hears rest) takes.gives (take_mid old new given e set f g rest takes) refl (λ next none. none_some None next refl none));
}
