-- A raised counter and a composite keep the state ready.
use Rattle.std.proofs.Common.{◌≡◌, ◌≢◌, ◌≤◌, ◌<◌, ℕ, List, Option, Some, None, IsSome, IsSomeAnd, is_some, refl, sym, ◌∙◌, ap, subst, ◌⊎◌, inl, inr, arith}
use Rattle.std.specs.Option.{ForSome}
use Rattle.scp_vote.specs.scp_types.specs.declared.ballot.Ballot.{Ballot}
use Rattle.scp_vote.specs.scp_envelope.specs.Ballots.{IsLess}
use Rattle.scp_ballot_rules.specs.declared.state.State.{State}
use Rattle.scp_ballot_rules.specs.Order.{AtMost, FitsUnder, IsOver}
use Rattle.scp_ballot_rules.specs.Own.{counter_of}
use Rattle.scp_ballot_rules.specs.Ready.{HasValue, IsLowUnder, NoneOver, IsPreparing, IsConfirming}
use Rattle.scp_ballot_rules.specs.inside.Rules.{Raises, RaisesMore, Composes}
use Rattle.scp_ballot_rules.proofs.Options.{some_of, some_and, at_some, for_some, none_some, some_same, some_or_none, same_some_and, has_some}
use Rattle.scp_ballot_rules.proofs.Order.{either_way, less_counter, at_most_counter}

-- a ballot with a higher counter is greater
pub counter_less : (x y : Ballot) → x.counter < y.counter → IsLess x y
counter_less x y h = elim (either_way y x) [
  | inl turned ↦ absurd (omega (arith, h, at_most_counter y x turned))
  | inr up ↦ up
]

pub counter_at : (o : Option Ballot) (x : Ballot) → o ≡ Some x → counter_of o ≡ x.counter
counter_at o x e = ap counter_of e

module _ (old next : State) (ready : IsPreparing old) (step : Raises old next) where
  same_prepared : next.prepared ≡ old.prepared
  same_prepared = ap (λ (s : State). s.prepared) step.frame

  same_prime : next.prime ≡ old.prime
  same_prime = ap (λ (s : State). s.prime) step.frame

  same_confirmed : next.confirmed ≡ old.confirmed
  same_confirmed = ap (λ (s : State). s.confirmed) step.frame

  same_composite : next.composite ≡ old.composite
  same_composite = ap (λ (s : State). s.composite) step.frame

  same_value : HasValue old → HasValue next
  same_value (inl w) = inl (ap (λ o. is_some o) same_confirmed ∙ w)
  same_value (inr (inl z)) = inr (inl (ap (λ o. is_some o) same_composite ∙ z))
  same_value (inr (inr p)) = inr (inr (ap (λ o. is_some o) same_prepared ∙ p))

  raised_from : (w : Ballot) → old.confirmed ≡ Some w → IsSomeAnd old.present (λ p. AtMost w p) → (p : Ballot) → next.present ≡ Some p → w.counter < p.counter
  raised_from w e there p f =
      let was = some_of (λ p. AtMost w p) old.present there in
      let now = at_some (λ p. (counter_of old.present < p.counter) × ForSome old.confirmed (λ w. p.value ≡ w.value)) next.present p f step.present in
      omega (arith, at_most_counter w was.0 was.2, counter_at old.present was.0 was.1, now.0)

  high_from : (h : Ballot) → next.high ≡ Some h → old.confirmed ≡ Some h
  high_from h e = elim (some_or_none old.confirmed) [
    | inl w ↦ w.1 ∙ ap Some (some_same next.high w.0 h (step.high w.0 w.1) e)
    | inr none ↦
        let was : IsSomeAnd old.confirmed (λ w. AtMost h w) = (ready.high h (sym (step.no_high none) ∙ e)).0 in
        let w = some_of (λ w. AtMost h w) old.confirmed was in
        none_some old.confirmed w.0 none w.1
  ]

  low_raised : (next.low ≡ None) ⊎ ((next.low ≡ old.low) × ForSome old.low (λ c. IsSomeAnd next.present (λ b. c.value ≡ b.value)))
      → ForSome next.low (λ c. IsSomeAnd next.high (λ h. IsLowUnder c h × NoneOver next h))
  low_raised (inl none) c e = none_some next.low c none e
  low_raised (inr kept) c e =
      let was : old.low ≡ Some c = sym kept.0 ∙ e in
      let h = some_of (λ h. IsLowUnder c h × NoneOver old h) old.high (ready.low c was) in
      let w = some_of (λ w. AtMost h.0 w) old.confirmed (ready.high h.0 h.1).0 in
      let p = some_of (λ p. h.0.value ≡ p.value) old.present (ready.high h.0 h.1).1 in
      let now = some_of (λ p. (counter_of old.present < p.counter) × ForSome old.confirmed (λ w. p.value ≡ w.value)) next.present step.present in
      let same : w.0.value ≡ p.0.value = sym (now.2.1 w.0 w.1) ∙ sym (at_some (λ b. c.value ≡ b.value) next.present now.0 now.1 (kept.1 c was)) ∙ h.2.0.1 ∙ p.2 in
      let high : next.high ≡ Some h.0 = step.high w.0 w.1 ∙ sym (ready.settled w.0 w.1 p.0 p.1 same) ∙ h.1 in
      some_and (λ h. IsLowUnder c h × NoneOver next h) next.high h.0 high (
        h.2.0,
        (
          λ over. h.2.1.0 (let P : Option Ballot → Type 0 = λ o. IsOver o h.0 in subst P same_prepared over),
          λ over. h.2.1.1 (let P : Option Ballot → Type 0 = λ o. IsOver o h.0 in subst P same_prime over),
        ),
      )

  pub raising_keeps : IsPreparing next
  raising_keeps = record {
    prime = λ x e. same_some_and (λ p. FitsUnder x p) old.prepared next.prepared (sym same_prepared) (ready.prime x (sym same_prime ∙ e));
    present = λ p e.
        let now = at_some (λ p. (counter_of old.present < p.counter) × ForSome old.confirmed (λ w. p.value ≡ w.value)) next.present p e step.present in
        (λ zero. omega (arith, now.0, zero), same_value step.value);
    confirmed = λ w e.
        let was = ready.confirmed w (sym same_confirmed ∙ e) in
        let p = some_of (λ p. (counter_of old.present < p.counter) × ForSome old.confirmed (λ w. p.value ≡ w.value)) next.present step.present in (
          some_and (λ p. AtMost w p) next.present p.0 p.1 (inr (counter_less w p.0 (raised_from w (sym same_confirmed ∙ e) was.0 p.0 p.1))),
          same_some_and (λ p. AtMost w p) old.prepared next.prepared (sym same_prepared) was.1,
        );
    counted = λ w e. ready.counted w (sym same_confirmed ∙ e);
    settled = λ w e p f same. step.high w (sym same_confirmed ∙ e);
    high = λ h e.
        let from = high_from h e in
        let p = some_of (λ p. (counter_of old.present < p.counter) × ForSome old.confirmed (λ w. p.value ≡ w.value)) next.present step.present in
        (some_and (λ w. AtMost h w) next.confirmed h (same_confirmed ∙ from) (inl refl), some_and (λ p. h.value ≡ p.value) next.present p.0 p.1 (sym (p.2.1 h from)));
    low = low_raised step.low;
    vote = λ h e f none. let up = raised_from h (high_from h e) (ready.confirmed h (high_from h e)).0 h f in absurd (omega (arith, up));
  }

-- A composite leaves all else ready.
module _ (z : List ℕ) (old next : State) (ready : IsPreparing old) (step : Composes z old next) where
  composite_prepared : next.prepared ≡ old.prepared
  composite_prepared = ap (λ (s : State). s.prepared) step.frame

  composite_prime : next.prime ≡ old.prime
  composite_prime = ap (λ (s : State). s.prime) step.frame

  composite_confirmed : next.confirmed ≡ old.confirmed
  composite_confirmed = ap (λ (s : State). s.confirmed) step.frame

  composite_high : next.high ≡ old.high
  composite_high = ap (λ (s : State). s.high) step.frame

  composite_low : next.low ≡ old.low
  composite_low = ap (λ (s : State). s.low) step.frame

  -- a ballot that was there is still there
  stays : (p : Ballot) → old.present ≡ Some p → next.present ≡ Some p
  stays p e = elim step.present [ inl same ↦ same.0 ∙ e | inr first ↦ none_some old.present p first.0 e ]

  counted : (p : Ballot) → next.present ≡ Some p → p.counter ≢ 0
  counted p e = elim step.present [
    | inl same ↦ (ready.present p (sym same.0 ∙ e)).0
    | inr first ↦ (λ zero. let one : p.counter ≡ 1 = ap (λ (b : Ballot). b.counter) (some_same next.present p _ e first.1) in omega (arith, zero, one))
  ]

  pub composing_keeps : IsPreparing next
  composing_keeps = record {
    prime = λ x e. same_some_and (λ p. FitsUnder x p) old.prepared next.prepared (sym composite_prepared) (ready.prime x (sym composite_prime ∙ e));
    present = λ p e. (counted p e, inr (inl (ap (λ (s : State). is_some s.composite) step.frame)));
    confirmed = λ w e.
        let was = ready.confirmed w (sym composite_confirmed ∙ e) in
        let p = some_of (λ p. AtMost w p) old.present was.0 in
        (some_and (λ p. AtMost w p) next.present p.0 (stays p.0 p.1) p.2, same_some_and (λ p. AtMost w p) old.prepared next.prepared (sym composite_prepared) was.1);
    counted = λ w e. ready.counted w (sym composite_confirmed ∙ e);
    settled = λ w e p f same.
        let was = some_of (λ p. AtMost w p) old.present (ready.confirmed w (sym composite_confirmed ∙ e)).0 in
        composite_high ∙ ready.settled w (sym composite_confirmed ∙ e) was.0 was.1 (same ∙ ap (λ (b : Ballot). b.value) (some_same next.present p was.0 f (stays was.0 was.1)));
    high = λ h e.
        let was = ready.high h (sym composite_high ∙ e) in
        let p = some_of (λ p. h.value ≡ p.value) old.present was.1 in
        (same_some_and (λ w. AtMost h w) old.confirmed next.confirmed (sym composite_confirmed) was.0, some_and (λ p. h.value ≡ p.value) next.present p.0 (stays p.0 p.1) p.2);
    low = λ c e.
        let h = some_of (λ h. IsLowUnder c h × NoneOver old h) old.high (ready.low c (sym composite_low ∙ e)) in
        some_and (λ h. IsLowUnder c h × NoneOver next h) next.high h.0 (composite_high ∙ h.1) (
          h.2.0,
          (
            λ over. h.2.1.0 (let P : Option Ballot → Type 0 = λ o. IsOver o h.0 in subst P composite_prepared over),
            λ over. h.2.1.1 (let P : Option Ballot → Type 0 = λ o. IsOver o h.0 in subst P composite_prime over),
          ),
        );
    vote = λ h e f none.
        let p = some_of (λ p. h.value ≡ p.value) old.present (ready.high h (sym composite_high ∙ e)).1 in
        let was : old.present ≡ Some h = p.1 ∙ ap Some (some_same next.present p.0 h (stays p.0 p.1) f) in
        elim (ready.vote h (sym composite_high ∙ e) was (sym composite_low ∙ none)) [
          | inl over ↦ inl (let P : Option Ballot → Type 0 = λ o. IsOver o h in subst P (sym composite_prepared) over)
          | inr over ↦ inr (let P : Option Ballot → Type 0 = λ o. IsOver o h in subst P (sym composite_prime) over)
        ];
  }

-- In the phase Confirm a raised counter keeps the range.
pub raising_more_keeps : (old next : State) → IsConfirming old → RaisesMore old next → IsConfirming next
raising_more_keeps old next ready step =
    let c = some_of (λ c. IsSomeAnd old.high (λ h. IsLowUnder c h × IsSomeAnd old.present (λ b. (h.value ≡ b.value) × (h.counter ≤ b.counter)))) old.low ready.range in
    let h = some_of (λ h. IsLowUnder c.0 h × IsSomeAnd old.present (λ b. (h.value ≡ b.value) × (h.counter ≤ b.counter))) old.high c.2 in
    let p = some_of (λ b. (h.0.value ≡ b.value) × (h.0.counter ≤ b.counter)) old.present h.2.1 in
    let q = some_of (λ b. (counter_of old.present < b.counter) × IsSomeAnd old.low (λ c. b.value ≡ c.value)) next.present step.present in
    let same_low : next.low ≡ old.low = ap (λ (s : State). s.low) step.frame in
    let same_high : next.high ≡ old.high = ap (λ (s : State). s.high) step.frame in
    let same_prepared : next.prepared ≡ old.prepared = ap (λ (s : State). s.prepared) step.frame in
    record {
      range = some_and (λ c. IsSomeAnd next.high (λ h. IsLowUnder c h × IsSomeAnd next.present (λ b. (h.value ≡ b.value) × (h.counter ≤ b.counter)))) next.low c.0 (same_low ∙ c.1)
          (some_and (λ h. IsLowUnder c.0 h × IsSomeAnd next.present (λ b. (h.value ≡ b.value) × (h.counter ≤ b.counter))) next.high h.0 (same_high ∙ h.1) (
            h.2.0,
            some_and (λ b. (h.0.value ≡ b.value) × (h.0.counter ≤ b.counter)) next.present q.0 q.1
                (sym h.2.0.1 ∙ sym (at_some (λ c. q.0.value ≡ c.value) old.low c.0 c.1 q.2.1), omega (arith, p.2.1, counter_at old.present p.0 p.1, q.2.0)),
          ));
      prepared = λ x e. same_some_and (λ c. x.value ≡ c.value) old.low next.low (sym same_low) (ready.prepared x (sym same_prepared ∙ e));
      prime = ap (λ (s : State). s.prime) step.frame ∙ ready.prime;
    }
