-- Accepting a ballot as prepared keeps the state ready.
use Rattle.std.proofs.Common.{◌≡◌, ◌≢◌, Option, Some, None, IsSome, IsSomeAnd, is_some, refl, sym, ◌∙◌, ap, subst, ◌⊎◌, inl, inr}
use Rattle.std.specs.Option.{ForSome}
use Rattle.scp_vote.specs.scp_types.specs.declared.ballot.Ballot.{Ballot}
use Rattle.scp_vote.specs.scp_envelope.specs.Ballots.{IsLess}
use Rattle.scp_vote.specs.declared.claim.Claim.TheVariants.{Prepared}
use Rattle.scp_vote.specs.Board.{Seen, Accepted}
use Rattle.scp_ballot_rules.specs.declared.state.State.{State}
use Rattle.scp_ballot_rules.specs.Order.{AtMost, FitsUnder, IsOver, IsAbove}
use Rattle.scp_ballot_rules.specs.Ready.{HasValue, IsLowUnder, NoneOver, IsPreparing}
use Rattle.scp_ballot_rules.specs.Rules.{IsHeld, AcceptsPrepared}
use Rattle.scp_ballot_rules.proofs.Options.{some_of, some_and, at_some, none_some, some_same, same_some_and, has_some, is_some_and}
use Rattle.scp_ballot_rules.proofs.Order.{at_most_less, less_at_most, at_most_trans, at_most_apart, values_decided}

module _ (b : Seen) (old next : State) (ready : IsPreparing old) (step : AcceptsPrepared b old next) where
  same_present : next.present ≡ old.present
  same_present = ap (λ (s : State). s.present) step.frame

  same_confirmed : next.confirmed ≡ old.confirmed
  same_confirmed = ap (λ (s : State). s.confirmed) step.frame

  same_high : next.high ≡ old.high
  same_high = ap (λ (s : State). s.high) step.frame

  same_composite : next.composite ≡ old.composite
  same_composite = ap (λ (s : State). s.composite) step.frame

  -- what is prepared never falls
  rises : (x : Ballot) → old.prepared ≡ Some x → IsSomeAnd next.prepared (λ y. AtMost x y)
  rises x e = elim step.prepared [
    | inl same ↦ some_and (λ y. AtMost x y) next.prepared x (same ∙ e) (inl refl)
    | inr more ↦
        let found = some_of (λ y. Accepted b (Prepared y) × IsAbove y old.prepared) next.prepared more in
        some_and (λ y. AtMost x y) next.prepared found.0 found.1 (inr (found.2.1 x e))
  ]

  held_rises : (x : Ballot) → IsHeld old x → IsSomeAnd next.prepared (λ y. AtMost x y)
  held_rises x (inl e) = rises x e
  held_rises x (inr e) =
      let p = some_of (λ p. FitsUnder x p) old.prepared (ready.prime x e) in
      let y = some_of (λ y. AtMost p.0 y) next.prepared (rises p.0 p.1) in
      some_and (λ y. AtMost x y) next.prepared y.0 y.1 (inr (less_at_most x p.0 y.0 p.2.0 y.2))

  -- Once one that is accepted prepared is over the high end, one always is.
  pub over_stays : (h x : Ballot) → IsHeld old x → IsLess h x → x.value ≢ h.value → IsOver next.prepared h ⊎ IsOver next.prime h
  over_stays h x held up apart =
      let y = some_of (λ y. AtMost x y) next.prepared (held_rises x held) in
      elim (values_decided y.0.value h.value) [
        | inl same ↦
            let fits : FitsUnder x y.0 = (at_most_apart x y.0 y.2 (λ e. apart (e ∙ same)), λ e. apart (e ∙ same)) in
            let z = some_of (λ z. AtMost x z) next.prime (step.kept x held (some_and (λ p. FitsUnder x p) next.prepared y.0 y.1 fits)) in
            let under : FitsUnder z.0 y.0 = at_some (λ p. FitsUnder z.0 p) next.prepared y.0 y.1 (step.prime z.0 z.1).1 in
            inr (some_and (λ w. IsLess h w × (w.value ≢ h.value)) next.prime z.0 z.1 (less_at_most h x z.0 up z.2, λ e. under.1 (e ∙ sym same)))
        | inr differs ↦ inl (some_and (λ w. IsLess h w × (w.value ≢ h.value)) next.prepared y.0 y.1 (less_at_most h x y.0 up y.2, differs))
      ]

  over_next : (h : Ballot) → IsOver old.prepared h ⊎ IsOver old.prime h → IsOver next.prepared h ⊎ IsOver next.prime h
  over_next h (inl over) = let x = some_of (λ x. IsLess h x × (x.value ≢ h.value)) old.prepared over in over_stays h x.0 (inl x.1) x.2.0 x.2.1
  over_next h (inr over) = let x = some_of (λ x. IsLess h x × (x.value ≢ h.value)) old.prime over in over_stays h x.0 (inr x.1) x.2.0 x.2.1

  value_next : HasValue old → HasValue next
  value_next (inl w) = inl (let P : Option Ballot → Type 0 = λ o. IsSome o in subst P (sym same_confirmed) w)
  value_next (inr (inl z)) = inr (inl (ap_some z))
    where
      ap_some : IsSome old.composite → IsSome next.composite
      ap_some z = ap (λ o. is_some o) same_composite ∙ z
  value_next (inr (inr p)) = let x = has_some old.prepared p in inr (inr (is_some_and (λ y. AtMost x.0 y) next.prepared (rises x.0 x.1)))

  pub accepting_keeps : IsPreparing next
  accepting_keeps = record {
    prime = λ x e. (step.prime x e).1;
    present = λ p e. let was = ready.present p (sym same_present ∙ e) in (was.0, value_next was.1);
    confirmed = λ w e.
        let was = ready.confirmed w (sym same_confirmed ∙ e) in
        let p = some_of (λ p. AtMost w p) old.prepared was.1 in
        let y = some_of (λ y. AtMost p.0 y) next.prepared (rises p.0 p.1) in (
          same_some_and (λ p. AtMost w p) old.present next.present (sym same_present) was.0,
          some_and (λ p. AtMost w p) next.prepared y.0 y.1 (at_most_trans w p.0 y.0 p.2 y.2),
        );
    counted = λ w e. ready.counted w (sym same_confirmed ∙ e);
    settled = λ w e p f same. same_high ∙ ready.settled w (sym same_confirmed ∙ e) p (sym same_present ∙ f) same;
    high = λ h e.
        let was = ready.high h (sym same_high ∙ e) in
        (same_some_and (λ w. AtMost h w) old.confirmed next.confirmed (sym same_confirmed) was.0, same_some_and (λ p. h.value ≡ p.value) old.present next.present (sym same_present) was.1);
    low = λ c e. elim step.low [
      | inl cleared ↦ none_some next.low c cleared.0 e
      | inr kept ↦
          let h = some_of (λ h. IsLowUnder c h × NoneOver old h) old.high (ready.low c (sym kept.0 ∙ e)) in
          some_and (λ h. IsLowUnder c h × NoneOver next h) next.high h.0 (same_high ∙ h.1) (h.2.0, kept.1 h.0 h.1)
    ];
    vote = λ h e f none. elim step.low [
      | inl cleared ↦ at_some (λ h. IsOver next.prepared h ⊎ IsOver next.prime h) old.high h (sym same_high ∙ e) cleared.1
      | inr kept ↦ over_next h (ready.vote h (sym same_high ∙ e) (sym same_present ∙ f) (sym kept.0 ∙ none))
    ];
  }
