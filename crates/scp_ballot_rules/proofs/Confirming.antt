-- Confirming a ballot as prepared keeps the state ready, and a new vote to commit is for a ballot that is Confirmed.
use Rattle.std.proofs.Common.{◌≡◌, ◌≢◌, ◌≤◌, Option, Some, None, IsSome, IsSomeAnd, is_some, refl, sym, ◌∙◌, ap, subst, ◌⊎◌, inl, inr, arith}
use Rattle.std.specs.Option.{ForSome}
use Rattle.scp_vote.specs.scp_types.specs.declared.ballot.Ballot.{Ballot}
use Rattle.scp_vote.specs.scp_envelope.specs.Ballots.{IsLess}
use Rattle.scp_vote.specs.scp_envelope.specs.Claims.{IsCovered}
use Rattle.scp_vote.specs.declared.claim.Claim.TheVariants.{Prepared}
use Rattle.scp_vote.specs.Board.{Seen, Confirmed}
use Rattle.scp_ballot_rules.specs.declared.state.State.{State}
use Rattle.scp_ballot_rules.specs.Order.{AtMost, FitsUnder, IsOver, IsAbove}
use Rattle.scp_ballot_rules.specs.Ready.{HasValue, IsLowUnder, NoneOver, IsPreparing}
use Rattle.scp_ballot_rules.specs.Rules.{Joins, LowAfter, ConfirmsPrepared}
use Rattle.scp_ballot_rules.proofs.Options.{some_of, some_and, at_some, for_some, none_some, some_same, some_or_none, same_some_and, is_some_and}
use Rattle.scp_ballot_rules.proofs.Order.{less_trans, at_most_less, less_at_most, at_most_counter, covered_at_most}

-- The state's accepted ballots cover the ballot.
abbrev pub IsCoveredBy : State → Ballot → Type 0
IsCoveredBy s x = IsSomeAnd s.prepared (λ top. IsCovered x top) ⊎ IsSomeAnd s.prime (λ top. IsCovered x top)

abbrev pub VotesNow : State → State → Type 0
VotesNow old next =
    ForSome old.low (λ c. ForSome next.present (λ b. c.value ≢ b.value))
    × IsSomeAnd next.high (λ h. (next.present ≡ Some h) × (next.low ≡ Some h) × NoneOver old h)

abbrev pub KeepsLow : State → State → Type 0
KeepsLow old next = (next.low ≡ old.low) × IsSomeAnd old.low (λ c. IsSomeAnd next.present (λ b. c.value ≡ b.value))

abbrev pub HasNoLow : State → State → Type 0
HasNoLow old next = (next.low ≡ None) × ForSome next.high (λ h. next.present ≡ Some h → IsOver old.prepared h ⊎ IsOver old.prime h) × ForSome old.low (λ c. ForSome next.present (λ b. c.value ≢ b.value))

over_under : (o : Option Ballot) (h x : Ballot) → IsLess h x → h.value ≡ x.value → IsOver o x → IsOver o h
over_under None h x up same over = absurd over
over_under (Some p) h x up same over = (less_trans h x p up over.0, λ e. over.1 (e ∙ same))

module _ (old : State) (ready : IsPreparing old) where
  -- where the present ballot and the high end are as before, no vote is new
  pub no_stale_vote : (next : State) → next.present ≡ old.present → next.high ≡ old.high → VotesNow old next → ⊥
  no_stale_vote next same_present same_high votes =
      let h = some_of (λ h. (next.present ≡ Some h) × (next.low ≡ Some h) × NoneOver old h) next.high votes.1 in
      elim (some_or_none old.low) [
        | inl c ↦
            let low = some_of (λ h. IsLowUnder c.0 h × NoneOver old h) old.high (ready.low c.0 c.1) in
            votes.0 c.0 c.1 h.0 h.2.0 (low.2.0.1 ∙ ap (λ (x : Ballot). x.value) (some_same old.high low.0 h.0 low.1 (sym same_high ∙ h.1)))
        | inr none ↦ elim (ready.vote h.0 (sym same_high ∙ h.1) (sym same_present ∙ h.2.0) none) [ inl over ↦ h.2.2.0 over | inr over ↦ h.2.2.1 over ]
      ]

  covered_prepared : (x : Ballot) → IsCoveredBy old x → IsSomeAnd old.prepared (λ p. AtMost x p)
  covered_prepared x (inl k) = let p = some_of (λ top. IsCovered x top) old.prepared k in some_and (λ p. AtMost x p) old.prepared p.0 p.1 (covered_at_most x p.0 p.2)
  covered_prepared x (inr k) =
      let q = some_of (λ top. IsCovered x top) old.prime k in
      let p = some_of (λ p. FitsUnder q.0 p) old.prepared (ready.prime q.0 q.1) in
      some_and (λ p. AtMost x p) old.prepared p.0 p.1 (inr (at_most_less x q.0 p.0 (covered_at_most x q.0 q.2) p.2.0))

module _ (b : Seen) (old next : State) (ready : IsPreparing old) (step : ConfirmsPrepared b old next)
    (covers : (x : Ballot) → Confirmed b (Prepared x) → IsCoveredBy old x) where
  same_prepared : next.prepared ≡ old.prepared
  same_prepared = ap (λ (s : State). s.prepared) step.frame

  same_prime : next.prime ≡ old.prime
  same_prime = ap (λ (s : State). s.prime) step.frame

  same_composite : next.composite ≡ old.composite
  same_composite = ap (λ (s : State). s.composite) step.frame

  to_over : (h : Ballot) → IsOver old.prepared h ⊎ IsOver old.prime h → IsOver next.prepared h ⊎ IsOver next.prime h
  to_over h (inl over) = inl (let P : Option Ballot → Type 0 = λ o. IsOver o h in subst P (sym same_prepared) over)
  to_over h (inr over) = inr (let P : Option Ballot → Type 0 = λ o. IsOver o h in subst P (sym same_prime) over)

  to_none_over : (h : Ballot) → NoneOver old h → NoneOver next h
  to_none_over h none = (
    λ over. none.0 (let P : Option Ballot → Type 0 = λ o. IsOver o h in subst P same_prepared over),
    λ over. none.1 (let P : Option Ballot → Type 0 = λ o. IsOver o h in subst P same_prime over),
  )

  next_prime : ForSome next.prime (λ x. IsSomeAnd next.prepared (λ p. FitsUnder x p))
  next_prime x e = same_some_and (λ p. FitsUnder x p) old.prepared next.prepared (sym same_prepared) (ready.prime x (sym same_prime ∙ e))

  -- the last of the cases of the low end, in each of which the vote is accounted for
  next_vote : LowAfter old next → ForSome next.high (λ h. next.present ≡ Some h → next.low ≡ None → IsOver next.prepared h ⊎ IsOver next.prime h)
  next_vote (inl kept) h e f none = let c = some_of (λ c. IsSomeAnd next.present (λ b. c.value ≡ b.value)) old.low kept.1 in none_some next.low c.0 none (kept.0 ∙ c.1)
  next_vote (inr (inl votes)) h e f none =
      let k = some_of (λ h. (next.present ≡ Some h) × (next.low ≡ Some h) × NoneOver old h) next.high votes.1 in
      none_some next.low k.0 none k.2.1
  next_vote (inr (inr cleared)) h e f none = to_over h (cleared.1 h e f)

  module _ (same_confirmed : next.confirmed ≡ old.confirmed) (same_present : next.present ≡ old.present) (same_high : next.high ≡ old.high) where
    stale_low : LowAfter old next → ForSome next.low (λ c. IsSomeAnd next.high (λ h. IsLowUnder c h × NoneOver next h))
    stale_low (inl kept) c e =
        let h = some_of (λ h. IsLowUnder c h × NoneOver old h) old.high (ready.low c (sym kept.0 ∙ e)) in
        some_and (λ h. IsLowUnder c h × NoneOver next h) next.high h.0 (same_high ∙ h.1) (h.2.0, to_none_over h.0 h.2.1)
    stale_low (inr (inl votes)) c e = absurd (no_stale_vote old ready next same_present same_high votes)
    stale_low (inr (inr cleared)) c e = none_some next.low c cleared.0 e

    stale_value : HasValue old → HasValue next
    stale_value (inl w) = inl (let P : Option Ballot → Type 0 = λ o. IsSome o in subst P (sym same_confirmed) w)
    stale_value (inr (inl z)) = inr (inl (ap (λ o. is_some o) same_composite ∙ z))
    stale_value (inr (inr p)) = inr (inr (let P : Option Ballot → Type 0 = λ o. IsSome o in subst P (sym same_prepared) p))

    stale_keeps : IsPreparing next
    stale_keeps = record {
      prime = next_prime;
      present = λ p e. let was = ready.present p (sym same_present ∙ e) in (was.0, stale_value was.1);
      confirmed = λ w e.
          let was = ready.confirmed w (sym same_confirmed ∙ e) in
          (same_some_and (λ p. AtMost w p) old.present next.present (sym same_present) was.0, same_some_and (λ p. AtMost w p) old.prepared next.prepared (sym same_prepared) was.1);
      counted = λ w e. ready.counted w (sym same_confirmed ∙ e);
      settled = λ w e p f same. same_high ∙ ready.settled w (sym same_confirmed ∙ e) p (sym same_present ∙ f) same;
      high = λ h e.
          let was = ready.high h (sym same_high ∙ e) in
          (same_some_and (λ w. AtMost h w) old.confirmed next.confirmed (sym same_confirmed) was.0, same_some_and (λ p. h.value ≡ p.value) old.present next.present (sym same_present) was.1);
      low = stale_low step.low;
      vote = next_vote step.low;
    }

  module _ (x : Ballot) (is : next.confirmed ≡ Some x) (counted : x.counter ≢ 0) (confirmed : Confirmed b (Prepared x)) (above : IsAbove x old.confirmed) where
    -- the old high end is less than the newly confirmed ballot
    high_less : (h : Ballot) → old.high ≡ Some h → IsLess h x
    high_less h e = let w = some_of (λ w. AtMost h w) old.confirmed (ready.high h e).0 in at_most_less h w.0 x w.2 (above w.0 w.1)

    present_next : Joins x old next → ForSome next.present (λ p. (p.counter ≢ 0) × AtMost x p)
    present_next (inl raised) p e = for_some (λ p. (p.counter ≢ 0) × AtMost x p) next.present x raised.1 (counted, inl refl) p e
    present_next (inr (inl joined)) p e = ((ready.present p (sym joined.1 ∙ e)).0, (at_some (λ p. AtMost x p × (x.value ≡ p.value)) old.present p (sym joined.1 ∙ e) joined.0).0)
    present_next (inr (inr apart)) p e = ((ready.present p (sym apart.1 ∙ e)).0, (at_some (λ p. AtMost x p × (x.value ≢ p.value)) old.present p (sym apart.1 ∙ e) apart.0).0)

    present_there : Joins x old next → IsSomeAnd next.present (λ p. AtMost x p)
    present_there (inl raised) = some_and (λ p. AtMost x p) next.present x raised.1 (inl refl)
    present_there (inr (inl joined)) = let p = some_of (λ p. AtMost x p × (x.value ≡ p.value)) old.present joined.0 in some_and (λ p. AtMost x p) next.present p.0 (joined.1 ∙ p.1) p.2.0
    present_there (inr (inr apart)) = let p = some_of (λ p. AtMost x p × (x.value ≢ p.value)) old.present apart.0 in some_and (λ p. AtMost x p) next.present p.0 (apart.1 ∙ p.1) p.2.0

    settled_next : Joins x old next → (p : Ballot) → next.present ≡ Some p → x.value ≡ p.value → next.high ≡ Some x
    settled_next (inl raised) p e same = raised.2
    settled_next (inr (inl joined)) p e same = joined.2
    settled_next (inr (inr apart)) p e same = absurd ((at_some (λ p. AtMost x p × (x.value ≢ p.value)) old.present p (sym apart.1 ∙ e) apart.0).1 same)

    high_next : Joins x old next → ForSome next.high (λ h. IsSomeAnd next.confirmed (λ w. AtMost h w) × IsSomeAnd next.present (λ p. h.value ≡ p.value))
    high_next (inl raised) h e = for_some (λ h. IsSomeAnd next.confirmed (λ w. AtMost h w) × IsSomeAnd next.present (λ p. h.value ≡ p.value)) next.high x raised.2
        (some_and (λ w. AtMost x w) next.confirmed x is (inl refl), some_and (λ p. x.value ≡ p.value) next.present x raised.1 refl) h e
    high_next (inr (inl joined)) h e =
        let p = some_of (λ p. AtMost x p × (x.value ≡ p.value)) old.present joined.0 in
        for_some (λ h. IsSomeAnd next.confirmed (λ w. AtMost h w) × IsSomeAnd next.present (λ p. h.value ≡ p.value)) next.high x joined.2
        (some_and (λ w. AtMost x w) next.confirmed x is (inl refl), some_and (λ p. x.value ≡ p.value) next.present p.0 (joined.1 ∙ p.1) p.2.1) h e
    high_next (inr (inr apart)) h e = (
      some_and (λ w. AtMost h w) next.confirmed x is (inr (high_less h (sym apart.2 ∙ e))),
      same_some_and (λ p. h.value ≡ p.value) old.present next.present (sym apart.1) (ready.high h (sym apart.2 ∙ e)).1,
    )

    -- the range is kept under the newly confirmed high end
    range_at : (c : Ballot) → old.low ≡ Some c → c.value ≡ x.value → next.high ≡ Some x → IsSomeAnd next.high (λ h. IsLowUnder c h × NoneOver next h)
    range_at c e same high =
        let h = some_of (λ h. IsLowUnder c h × NoneOver old h) old.high (ready.low c e) in
        let up = high_less h.0 h.1 in
        let value : h.0.value ≡ x.value = sym h.2.0.1 ∙ same in
        some_and (λ h. IsLowUnder c h × NoneOver next h) next.high x high (
          (h.2.0.0, same, omega (arith, h.2.0.2, at_most_counter h.0 x (inr up))),
          to_none_over x (λ over. h.2.1.0 (over_under old.prepared h.0 x up value over), λ over. h.2.1.1 (over_under old.prime h.0 x up value over)),
        )

    low_kept : Joins x old next → (c : Ballot) → old.low ≡ Some c → IsSomeAnd next.present (λ p. c.value ≡ p.value) → IsSomeAnd next.high (λ h. IsLowUnder c h × NoneOver next h)
    low_kept (inl raised) c e same = range_at c e (at_some (λ p. c.value ≡ p.value) next.present x raised.1 same) raised.2
    low_kept (inr (inl joined)) c e same =
        let p = some_of (λ p. AtMost x p × (x.value ≡ p.value)) old.present joined.0 in
        range_at c e (at_some (λ p. c.value ≡ p.value) next.present p.0 (joined.1 ∙ p.1) same ∙ sym p.2.1) joined.2
    low_kept (inr (inr apart)) c e same =
        let h = some_of (λ h. IsLowUnder c h × NoneOver old h) old.high (ready.low c e) in
        some_and (λ h. IsLowUnder c h × NoneOver next h) next.high h.0 (apart.2 ∙ h.1) (h.2.0, to_none_over h.0 h.2.1)

    low_next : Joins x old next → LowAfter old next → ForSome next.low (λ c. IsSomeAnd next.high (λ h. IsLowUnder c h × NoneOver next h))
    low_next joins (inl kept) c e = low_kept joins c (sym kept.0 ∙ e) (at_some (λ c. IsSomeAnd next.present (λ b. c.value ≡ b.value)) old.low c (sym kept.0 ∙ e) kept.1)
    low_next joins (inr (inl votes)) c e =
        let h = some_of (λ h. (next.present ≡ Some h) × (next.low ≡ Some h) × NoneOver old h) next.high votes.1 in
        for_some (λ c. IsSomeAnd next.high (λ h. IsLowUnder c h × NoneOver next h)) next.low h.0 h.2.1
        (some_and (λ k. IsLowUnder h.0 k × NoneOver next k) next.high h.0 h.1 (((present_next joins h.0 h.2.0).0, refl, omega arith), to_none_over h.0 h.2.2)) c e
    low_next joins (inr (inr cleared)) c e = none_some next.low c cleared.0 e

    fresh_keeps : Joins x old next → IsPreparing next
    fresh_keeps joins = record {
      prime = next_prime;
      present = λ p e. ((present_next joins p e).0, inl (is_some_and (λ w. AtMost w x) next.confirmed (some_and (λ w. AtMost w x) next.confirmed x is (inl refl))));
      confirmed = for_some (λ w. IsSomeAnd next.present (λ p. AtMost w p) × IsSomeAnd next.prepared (λ p. AtMost w p)) next.confirmed x is
          (present_there joins, same_some_and (λ p. AtMost x p) old.prepared next.prepared (sym same_prepared) (covered_prepared old ready x (covers x confirmed)));
      counted = for_some (λ w. w.counter ≢ 0) next.confirmed x is counted;
      settled = for_some (λ w. ForSome next.present (λ p. w.value ≡ p.value → next.high ≡ Some w)) next.confirmed x is (settled_next joins);
      high = high_next joins;
      low = low_next joins step.low;
      vote = next_vote step.low;
    }

  pub confirming_keeps : IsPreparing next
  confirming_keeps = elim step.confirmed [
    | inl stale ↦ stale_keeps stale.0 stale.1 stale.2
    | inr fresh ↦
        let x = some_of (λ x. (x.counter ≢ 0) × Confirmed b (Prepared x) × IsAbove x old.confirmed × Joins x old next) next.confirmed fresh in
        fresh_keeps x.0 x.1 x.2.0 x.2.1 x.2.2 x.2.3
  ]

  -- A vote that is new is for a ballot that is Confirmed prepared on the board at that moment.
  pub new_vote_is_confirmed : VotesNow old next → IsSomeAnd next.high (λ h. Confirmed b (Prepared h))
  new_vote_is_confirmed votes = elim step.confirmed [
    | inl stale ↦ absurd (no_stale_vote old ready next stale.1 stale.2 votes)
    | inr fresh ↦
        let x = some_of (λ x. (x.counter ≢ 0) × Confirmed b (Prepared x) × IsAbove x old.confirmed × Joins x old next) next.confirmed fresh in
        elim x.2.3 [
          | inl raised ↦ some_and (λ h. Confirmed b (Prepared h)) next.high x.0 raised.2 x.2.1
          | inr (inl joined) ↦ some_and (λ h. Confirmed b (Prepared h)) next.high x.0 joined.2 x.2.1
          | inr (inr apart) ↦ absurd (no_stale_vote old ready next apart.1 apart.2 votes)
        ]
  ]
