-- What the machine gives is what a balloter promises.
use Rattle.std.proofs.Common.{◌≡◌, ◌<◌, ◌≤◌, ◌⊎◌, ◌↔◌, Bool, true, false, [], Option, Some, None, is_some, IsSome, IsSomeAnd, refl, sym, ◌∙◌, ap, subst, inl, inr, arith}
use Rattle.std.specs.Option.{option_map, ForSome}
use Rattle.scp_ballot_rules.specs.scp_types.specs.declared.ballot.Ballot.{Ballot}
use Rattle.scp_ballot_rules.specs.scp_types.specs.declared.names.Hash.{Hash}
use Rattle.scp_ballot_rules.specs.scp_types.specs.declared.names.Slot.{Slot}
use Rattle.scp_ballot_rules.specs.scp_envelope.specs.Kinds.{set_hash_of}
use Rattle.scp_ballot_rules.specs.scp_envelope.specs.Sane.{IsSane}
use Rattle.scp_ballot_rules.specs.scp_envelope.specs.Newer.{IsNewer, ArePledgesNewer}
use Rattle.scp_ballot_rules.specs.scp_envelope.specs.declared.statement.Pledges.{Pledges}
use Rattle.scp_ballot_rules.specs.scp_envelope.specs.declared.statement.Statement.{Statement}
use Rattle.scp_ballot_rules.specs.scp_envelope.specs.declared.statement.Envelope.{Envelope}
use Rattle.scp_ballot_rules.specs.scp_vote.specs.declared.claim.StatementKind.TheVariants.{Balloting}
use Rattle.scp_ballot_rules.specs.scp_vote.specs.Board.{kind_of_pledges}
use Rattle.scp_ballot_rules.specs.scp_vote.specs.Licence.{IsExternalize}
use Rattle.scp_ballot_rules.specs.declared.state.State.{State}
use Rattle.scp_ballot_rules.specs.declared.state.Phase.{Phase}
use Rattle.scp_ballot_rules.specs.declared.state.Phase.TheVariants.{Prepare, Confirm, Externalize}
use Rattle.scp_ballot_rules.specs.Own.{own_of, own_in, or_zero, counter_of, StandsFor, IsBlank}
use Rattle.scp_ballot_rules.specs.Owed.{OwesNothing}
use Rattle.scp_ballot_rules.specs.inside.Rises.{place, Rises, or_state}
use Rattle.scp_ballot_rules.proofs.Rising.{rises_trans}
use Rattle.scp_ballot_rules.proofs.Options.{some_of, some_and, at_some, some_same, none_some}
use Rattle.scp_ballot.specs.declared.machine.Machine.{Machine}
use Rattle.scp_ballot.specs.declared.balloted.Balloted.{Balloted}
use Rattle.scp_ballot.specs.declared.balloted.Certified.{Certified}
use Rattle.scp_ballot_rules.specs.Told.{ballots_on}
use Rattle.scp_ballot.specs.inside.Machine.{own_at, IsOwnStatement, IsAtRest, IsSettled}
use Rattle.scp_ballot.specs.inside.Gives.{IsWorth, Emits, IsCertifiedAt, Decides, Gives}
use Rattle.scp_ballot.specs.inside.Balloter.{ballots_of}
use Rattle.scp_ballot.specs.Balloting.{IsOwnEnvelope, IsWorthTelling, last_emitted, Externalizes, IsCertified, GoesOn, Advances}
use Rattle.scp_ballot.proofs.Others.{licensed_now}
use Rattle.scp_ballot.proofs.Valuing.{Enters, values_kept}

-- what the own statement of a state says
hash_of_own : (ph : Phase) (hash : Hash) (s : State) → set_hash_of (own_in ph hash s) ≡ hash
hash_of_own Prepare hash s = refl
hash_of_own Confirm hash s = refl
hash_of_own Externalize hash s = refl

kind_of_own : (ph : Phase) (hash : Hash) (s : State) → kind_of_pledges (own_in ph hash s) ≡ Balloting
kind_of_own Prepare hash s = refl
kind_of_own Confirm hash s = refl
kind_of_own Externalize hash s = refl

blank_insane : (hash : Hash) (s : State) → IsBlank s → IsSane (own_of hash s) → ⊥
blank_insane hash s blank sane =
    let here : IsSane (own_in Prepare hash s) = subst (λ ph. IsSane (own_in ph hash s)) blank.phase sane in
    let zero : (or_zero s.present).counter ≡ 0 = ap (λ o. (or_zero o).counter) blank.present in
    omega (arith, here.counted, zero)

place_top : (ph : Phase) → place ph ≤ 2
place_top Prepare = omega arith
place_top Confirm = omega arith
place_top Externalize = omega arith

-- the last phase stays
at_end : (s t : State) → Rises s t → s.phase ≡ Externalize → t.phase ≡ Externalize
at_end s t (inl later) e = absurd (omega (arith, later, ap place e, place_top t.phase))
at_end s t (inr same) e = same.0 ∙ e

zero_counted : (o : Option Ballot) → (or_zero o).counter ≡ counter_of o
zero_counted None = refl
zero_counted (Some x) = refl

-- a state that rises makes a statement that goes no way back
goes_in : (ph qh : Phase) (hash other : Hash) (s t : State) → (place ph < place qh) ⊎ ((qh ≡ ph) × (counter_of s.present ≤ counter_of t.present)) → GoesOn (own_in ph hash s) (own_in qh other t)
goes_in Prepare Prepare hash other s t (inl later) = absurd (omega (arith, later))
goes_in Prepare Prepare hash other s t (inr same) = omega (arith, same.1, zero_counted s.present, zero_counted t.present)
goes_in Prepare Confirm hash other s t h = tt
goes_in Prepare Externalize hash other s t h = tt
goes_in Confirm Prepare hash other s t (inl later) = absurd (omega (arith, later))
goes_in Confirm Prepare hash other s t (inr same) = absurd (let k : Prepare ≡ Confirm = same.0 in cc)
goes_in Confirm Confirm hash other s t (inl later) = absurd (omega (arith, later))
goes_in Confirm Confirm hash other s t (inr same) = omega (arith, same.1, zero_counted s.present, zero_counted t.present)
goes_in Confirm Externalize hash other s t h = tt
goes_in Externalize Prepare hash other s t (inl later) = absurd (omega (arith, later))
goes_in Externalize Prepare hash other s t (inr same) = absurd (let k : Prepare ≡ Externalize = same.0 in cc)
goes_in Externalize Confirm hash other s t (inl later) = absurd (omega (arith, later))
goes_in Externalize Confirm hash other s t (inr same) = absurd (let k : Confirm ≡ Externalize = same.0 in cc)
goes_in Externalize Externalize hash other s t h = tt

-- the own statement is an EXTERNALIZE exactly in that phase
externalize_phase : (ph : Phase) (hash : Hash) (s : State) → IsExternalize (own_in ph hash s) → ph ≡ Externalize
externalize_phase Prepare hash s h = absurd h
externalize_phase Confirm hash s h = absurd h
externalize_phase Externalize hash s h = refl

module _ (own : Option Pledges) (hash : Hash) (s : State) (stands : StandsFor own hash s) where
  pub decided_phase : IsSomeAnd own IsExternalize → s.phase ≡ Externalize
  decided_phase h = elim stands [
    | inl e ↦ externalize_phase s.phase hash s (at_some IsExternalize own (own_of hash s) e h)
    | inr none ↦ (let p = some_of IsExternalize own h in none_some own p.0 none.0 p.1)
  ]

  pub phase_decided : s.phase ≡ Externalize → IsSomeAnd own IsExternalize
  phase_decided e = elim stands [
    | inl is ↦ some_and IsExternalize own (own_of hash s) is (subst (λ ph. IsExternalize (own_in ph hash s)) (sym e) tt)
    | inr none ↦ absurd (let k : Prepare ≡ Externalize = sym none.1.phase ∙ e in cc)
  ]

  -- a sane own statement is on the board
  sane_stands : IsSane (own_of hash s) → own ≡ Some (own_of hash s)
  sane_stands sane = elim stands [ inl e ↦ e | inr none ↦ absurd (blank_insane hash s none.1 sane) ]

module _ (m : Machine) (stands : StandsFor (own_at m) m.hash m.state) (last : Option Statement) (made : ForSome last (λ (t : Statement). (t.node ≡ (ballots_on m.board).me) × (t.slot ≡ m.slot))) where
  own_envelope : (new : Option Statement) (failed : Bool) (e : Envelope) → IsOwnStatement m m.state e.statement → e.signature ≡ [] → own_at m ≡ Some (own_of m.hash m.state) → IsOwnEnvelope (ballots_of (record m { emitted = new }) failed) e
  own_envelope new failed e is unsigned there = record {
    node = is.node;
    slot = ap (λ (s : Slot). s.0) is.slot;
    kind = ap kind_of_pledges is.pledges ∙ kind_of_own m.state.phase m.hash m.state;
    stands = there ∙ ap Some (sym is.pledges);
    hash = ap set_hash_of is.pledges ∙ hash_of_own m.state.phase m.hash m.state;
    unsigned = unsigned;
  }

  pub worth_telling : (own : Statement) → IsOwnStatement m m.state own → IsWorth last own → IsWorthTelling (option_map (λ (s : Statement). s.pledges) last) (own_at m)
  worth_telling own is worth =
      let sane : IsSane (own_of m.hash m.state) = subst (λ p. IsSane p) is.pledges worth.0 in
      some_and (λ q. IsSane q × ForSome (option_map (λ (s : Statement). s.pledges) last) (λ p. ArePledgesNewer p q)) (own_at m) (own_of m.hash m.state) (sane_stands (own_at m) m.hash m.state stands sane)
      (sane, λ p e. newer_than last worth.1 p e)
    where
      newer_than : (o : Option Statement) → ForSome o (λ s. IsNewer s own) → (p : Pledges) → option_map (λ (s : Statement). s.pledges) o ≡ Some p → ArePledgesNewer p (own_of m.hash m.state)
      newer_than None h p e = none_some None p refl e
      newer_than (Some s) h p e = subst (λ x. ArePledgesNewer x (own_of m.hash m.state)) (some_same (Some s.pledges) s.pledges p refl e) (subst (λ q. ArePledgesNewer s.pledges q) is.pledges (h s refl).newer)

  own_made : Statement
  own_made = record { node = (ballots_on m.board).me; slot = m.slot; pledges = own_of m.hash m.state }

  pub telling_worth : IsWorthTelling (option_map (λ (s : Statement). s.pledges) last) (own_at m) → IsWorth last (record { node = (ballots_on m.board).me; slot = m.slot; pledges = own_of m.hash m.state })
  telling_worth h =
      let q = some_of (λ q. IsSane q × ForSome (option_map (λ (s : Statement). s.pledges) last) (λ p. ArePledgesNewer p q)) (own_at m) h in
      let same : q.0 ≡ own_of m.hash m.state = elim stands [
        | inl e ↦ some_same (own_at m) q.0 (own_of m.hash m.state) q.1 e
        | inr none ↦ none_some (own_at m) q.0 none.0 q.1
      ] in (
        subst (λ p. IsSane p) same q.2.0,
        λ s e. record {
          same_node = (made s e).0;
          same_slot = (made s e).1;
          newer = subst (λ p. ArePledgesNewer s.pledges p) same (q.2.1 s.pledges (ap (option_map (λ (s : Statement). s.pledges)) e));
        },
      )

module _ (old settled new : Machine) (given : Balloted) (first : Option State) (f g : Bool) (rest : IsAtRest old) (s : IsSettled old first settled) where
  made_then : ForSome settled.emitted (λ (t : Statement). (t.node ≡ (ballots_on settled.board).me) × (t.slot ≡ settled.slot))
  made_then t e = let was = rest.emitted t (sym s.rest.emitted ∙ e) in (was.0 ∙ sym s.chain.board.me, was.1 ∙ sym s.rest.slot)

  last_old : option_map (λ (t : Statement). t.pledges) settled.emitted ≡ option_map (λ (t : Statement). t.pledges) old.emitted
  last_old = ap (option_map (λ (t : Statement). t.pledges)) s.rest.emitted

  tells : (found : Option Envelope) → Emits settled new found → (IsSome found ↔ IsWorthTelling (option_map (λ (t : Statement). t.pledges) old.emitted) (own_at settled))
      × ForSome found (λ e. IsOwnEnvelope (ballots_of (record settled { emitted = new.emitted }) g) e) × (option_map (λ (t : Statement). t.pledges) new.emitted ≡ last_emitted found (option_map (λ (t : Statement). t.pledges) old.emitted))
  tells None emits = (
    (
      λ h. (let k : false ≡ true = h in cc),
      λ h. absurd (emits.none.1 (record { node = (ballots_on settled.board).me; slot = settled.slot; pledges = own_of settled.hash settled.state }) (record { node = refl; slot = refl; pledges = refl })
          (telling_worth settled s.stands settled.emitted made_then (subst (λ o. IsWorthTelling o (own_at settled)) (sym last_old) h))),
    ),
    λ e is. none_some None e refl is,
    ap (option_map (λ (t : Statement). t.pledges)) emits.none.0 ∙ last_old,
  )
  tells (Some e) emits =
      let worth = worth_telling settled s.stands settled.emitted made_then e.statement emits.some.0 emits.some.2 in
      let sane : IsSane (own_of settled.hash settled.state) = subst (λ p. IsSane p) emits.some.0.pledges emits.some.2.0 in (
        (λ h. subst (λ o. IsWorthTelling o (own_at settled)) last_old worth, λ h. refl),
        λ x is. subst (λ x. IsOwnEnvelope (ballots_of (record settled { emitted = new.emitted }) g) x) (some_same (Some e) e x refl is)
            (own_envelope settled s.stands settled.emitted made_then new.emitted g e emits.some.0 emits.some.1 (sane_stands (own_at settled) settled.hash settled.state s.stands sane)),
        ap (option_map (λ (t : Statement). t.pledges)) emits.some.3,
      )

  externalizes : (ph : Phase) (hash : Hash) (st : State) (d : Certified) → ph ≡ Externalize → d.value ≡ (or_zero st.low).value → d.n ≡ counter_of st.high → Externalizes (own_in ph hash st) d
  externalizes Prepare hash st d e v n = absurd (let k : Prepare ≡ Externalize = e in cc)
  externalizes Confirm hash st d e v n = absurd (let k : Confirm ≡ Externalize = e in cc)
  externalizes Externalize hash st d e v n = (sym v, sym n)

  certifies : Decides old.state.phase settled given.decided → ForSome given.decided (λ d. IsCertified (ballots_of (record settled { emitted = new.emitted }) g) d)
  certifies decides d is =
      let low = some_of (λ low. IsCertifiedAt settled low d) settled.state.low (decides.certified d is) in
      let phase : settled.state.phase ≡ Externalize = (decides.exactly.0 (ap is_some is)).1 in
      let there : own_at settled ≡ Some (own_of settled.hash settled.state) = elim s.stands [ inl e ↦ e | inr none ↦ absurd (let k : Prepare ≡ Externalize = sym none.1.phase ∙ phase in cc) ] in
      record {
        quorum = low.2.quorum;
        own = own_envelope settled s.stands settled.emitted made_then new.emitted g d.own low.2.own low.2.unsigned there;
        externalizes = subst (λ p. Externalizes p d) (sym low.2.own.pledges)
            (externalizes settled.state.phase settled.hash settled.state d phase (low.2.value ∙ ap (λ o. (or_zero o).value) (sym low.1)) low.2.n);
      }

  goes : Rises old.state settled.state → ForSome (own_at old) (λ p. ForSome (own_at settled) (λ q. GoesOn p q))
  goes rises p e q k = elim rest.stands [
    | inr none ↦ none_some (own_at old) p none.0 e
    | inl is ↦ elim s.stands [
      | inr none ↦ none_some (own_at settled) q none.0 k
      | inl there ↦ subst (λ x. GoesOn x q) (some_same (own_at old) (own_of old.hash old.state) p is e)
          (subst (λ y. GoesOn (own_of old.hash old.state) y) (some_same (own_at settled) (own_of settled.hash settled.state) q there k) (goes_in old.state.phase settled.state.phase old.hash settled.hash old.state settled.state rises))
    ]
  ]

  advances_settled : (or_state first old.state).phase ≡ old.state.phase → Rises old.state (or_state first old.state) → Enters old.state (or_state first old.state) → (given.more ≡ false → OwesNothing settled.hash (ballots_on settled.board)) → Decides old.state.phase settled given.decided → Emits settled new given.statement
      → Advances (ballots_of old f) (ballots_of (record settled { emitted = new.emitted }) g) given
  advances_settled still up enters owed decides emits =
      let told = tells given.statement emits in
      record {
        licensed = licensed_now (ballots_on old.board) (own_at old) (ballots_on settled.board) s.chain;
        rises = goes (rises_trans old.state (or_state first old.state) settled.state up s.rises);
        value = values_kept (ballots_on old.board) (own_at old) (own_at settled) old.hash settled.hash old.state (or_state first old.state) settled.state rest.stands s.stands still enters s.rises s.composite s.moves;
        owed = owed;
        emitted = told.0;
        statement = told.1;
        last = told.2;
        decided = (
          λ h. (let k = decides.exactly.0 h in (λ was. k.0 (decided_phase (own_at old) old.hash old.state rest.stands was), phase_decided (own_at settled) settled.hash settled.state s.stands k.1)),
          λ h. decides.exactly.1 (λ was. h.0 (phase_decided (own_at old) old.hash old.state rest.stands was), decided_phase (own_at settled) settled.hash settled.state s.stands h.1),
        );
        stays = λ was. phase_decided (own_at settled) settled.hash settled.state s.stands (at_end (or_state first old.state) settled.state s.rises (still ∙ decided_phase (own_at old) old.hash old.state rest.stands was));
        ended = λ was. ap own_at (s.ended (decided_phase (own_at old) old.hash old.state rest.stands was));
        certified = certifies decides;
        making = record { slot = ap (λ (x : Slot). x.0) s.rest.slot; hash = s.rest.hash; me = s.chain.board.me; local = s.chain.board.local };
        counted = s.chain.keeps;
      }

  emits_rests : (found : Option Envelope) → Emits settled new found → ForSome new.emitted (λ (t : Statement). (t.node ≡ (ballots_on settled.board).me) × (t.slot ≡ settled.slot))
  emits_rests None emits t e = made_then t (sym emits.none.0 ∙ e)
  emits_rests (Some x) emits t e =
      let same : x.statement ≡ t = some_same new.emitted x.statement t emits.some.3 e in
      (ap (λ (u : Statement). u.node) (sym same) ∙ emits.some.0.node, ap (λ (u : Statement). u.slot) (sym same) ∙ emits.some.0.slot)

  pub settled_rests : Emits settled new given.statement → IsAtRest (record settled { emitted = new.emitted })
  settled_rests emits = record { keeps = s.chain.keeps; stands = s.stands; ready = s.ready; emitted = emits_rests given.statement emits }

pub advances : (old new : Machine) (given : Balloted) (first : Option State) (f g : Bool) → IsAtRest old → (or_state first old.state).phase ≡ old.state.phase → Rises old.state (or_state first old.state) → Enters old.state (or_state first old.state) → Gives old first new given → Advances (ballots_of old f) (ballots_of new g) given
advances old new given first f g rest still up enters gives = subst (λ m. Advances (ballots_of old f) (ballots_of m g) given) (sym gives.emits.frame) (advances_settled old gives.settled new given first f g rest gives.settles still up enters gives.owed gives.decides gives.emits)

pub gives_rests : (old new : Machine) (given : Balloted) (first : Option State) → IsAtRest old → Gives old first new given → IsAtRest new
gives_rests old new given first rest gives = subst (λ m. IsAtRest m) (sym gives.emits.frame) (settled_rests old gives.settled new given first false false rest gives.settles gives.emits)
