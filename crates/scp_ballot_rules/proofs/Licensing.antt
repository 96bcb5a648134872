-- Each change of state that the protocol makes is a step that is licensed.
use Rattle.std.proofs.Common.{◌≡◌, ◌≢◌, ◌≤◌, ◌<◌, ℕ, List, true, false, Option, Some, None, IsSome, IsSomeAnd, IfSome, refl, sym, ◌∙◌, ap, subst, ◌⊎◌, inl, inr, arith}
use Rattle.std.specs.Option.{ForSome, option_map}
use Rattle.scp_vote.specs.scp_types.specs.declared.ballot.Ballot.{Ballot}
use Rattle.scp_vote.specs.scp_envelope.specs.Ballots.{IsLess}
use Rattle.scp_vote.specs.declared.claim.Claim.TheVariants.{Prepared, Committed}
use Rattle.scp_vote.specs.Board.{Seen, Accepted, Confirmed}
use Rattle.scp_ballot_rules.specs.declared.state.State.{State}
use Rattle.scp_ballot_rules.specs.declared.state.Phase.{Phase}
use Rattle.scp_ballot_rules.specs.declared.state.Phase.TheVariants.{Prepare, Confirm, Externalize}
use Rattle.scp_ballot_rules.specs.Order.{AtMost, IsOver, IsAbove}
use Rattle.scp_ballot_rules.specs.Own.{counter_of}
use Rattle.scp_ballot_rules.specs.Ready.{IsLowUnder, NoneOver, IsConfirming, IsReadyIn, IsReady}
use Rattle.scp_ballot_rules.specs.Owed.{AreAheadOf}
use Rattle.scp_ballot_rules.specs.Rules.{IsHeld, AcceptsPrepared, AcceptsMore, Joins, LowAfter, ConfirmsPrepared, AcceptsCommit, ConfirmsCommit, Grows}
use Rattle.scp_ballot_rules.specs.inside.Rules.{Raises, CatchesUp, RaisesMore, IsStep}
use Rattle.scp_ballot_rules.specs.Greatest.{Where, IsOf, ballot_at}
use Rattle.scp_ballot_rules.specs.AcceptPrepared.{IsInA, AcceptsInPrepare, AcceptsInConfirm, AcceptPrepared}
use Rattle.scp_ballot_rules.specs.ConfirmPrepared.{IsConfirmedCandidate, Enters, ConfirmsInPrepare, ConfirmPrepared}
use Rattle.scp_ballot_rules.specs.AcceptCommit.{TakesRange, IsHeldOf, TakesFirst, TakesHigher, AcceptCommit}
use Rattle.scp_ballot_rules.specs.ConfirmCommit.{Commits, ConfirmCommit}
use Rattle.scp_ballot_rules.specs.RaiseCounter.{value_to_raise, Raised, RaiseCounter}
use Rattle.scp_ballot_rules.specs.Steps.{OrElse, Step}
use Rattle.scp_ballot_rules.proofs.Options.{some_of, some_and, at_some, some_same, some_or_none, none_some}
use Rattle.scp_ballot_rules.proofs.Order.{less_turn, either_way, values_decided, at_most_counter, at_most_apart}
use Rattle.scp_ballot_rules.proofs.Raised.{raised}

-- 1. what is accepted prepared is above what was, or is it
module _ (b : Seen) (s t : State) (A : Ballot → Type 0) (among : (x : Ballot) → t.prepared ≡ Some x → A x ⊎ (s.prepared ≡ Some x)) (greatest : (x : Ballot) → s.prepared ≡ Some x → IsSomeAnd t.prepared (λ y. AtMost x y)) where
  above_or_same : (x : Ballot) → t.prepared ≡ Some x → (t.prepared ≡ s.prepared) ⊎ (A x × IsAbove x s.prepared)
  above_or_same x e = elim (among x e) [
    | inr was ↦ inl (e ∙ sym was)
    | inl a ↦ elim (some_or_none s.prepared) [
      | inr none ↦ inr (a, λ y f. none_some s.prepared y none f)
      | inl (y, f) ↦
          let z = some_of (λ z. AtMost y z) t.prepared (greatest y f) in
          elim (subst (λ w. AtMost y w) (some_same t.prepared z.0 x z.1 e) z.2) [
            | inl is ↦ inl (e ∙ ap Some (sym is) ∙ sym f)
            | inr less ↦ inr (a, λ w g. subst (λ w. IsLess w x) (some_same s.prepared y w f g) less)
          ]
    ]
  ]

  none_same : t.prepared ≡ None → t.prepared ≡ s.prepared
  none_same none = elim (some_or_none s.prepared) [
    | inl (y, f) ↦ (let z = some_of (λ z. AtMost y z) t.prepared (greatest y f) in none_some t.prepared z.0 none z.1)
    | inr also ↦ none ∙ sym also
  ]

accepts_step : (b : Seen) (s t : State) → AcceptsInPrepare b s t → AcceptsPrepared b s t
accepts_step b s t h = record {
  frame = h.frame;
  prepared = elim (some_or_none t.prepared) [
    | inl (x, e) ↦ elim (above_or_same b s t (λ x. IsInA Prepare b s x) h.prepared.among (λ y f. h.prepared.greatest y (inr f)) x e) [
      | inl same ↦ inl same
      | inr new ↦ inr (some_and (λ x. Accepted b (Prepared x) × IsAbove x s.prepared) t.prepared x e (new.0.1, new.1))
    ]
    | inr none ↦ inl (none_same b s t (λ x. IsInA Prepare b s x) h.prepared.among (λ y f. h.prepared.greatest y (inr f)) none)
  ];
  prime = λ x e. let k = h.prime.among x e in (elim k.0 [ inl a ↦ inr a.1 | inr held ↦ inl held ], k.1);
  kept = λ x held fits. h.prime.greatest x (inr held, fits);
  low = elim h.low [
    | inl over ↦ inl (over.1, over.0)
    | inr kept ↦ inr (
      kept.1,
      λ x e. (
        λ over. kept.0 (some_and (λ h. IsOver t.prepared h ⊎ IsOver t.prime h) s.high x e (inl over)),
        λ over. kept.0 (some_and (λ h. IsOver t.prepared h ⊎ IsOver t.prime h) s.high x e (inr over)),
      ),
    )
  ];
}

more_step : (b : Seen) (s t : State) → AcceptsInConfirm b s t → t ≢ s → AcceptsMore b s t
more_step b s t h differs = record { frame = h.frame; prepared = found (some_or_none t.prepared) }
  where
    same : t.prepared ≡ s.prepared → ⊥
    same e = differs (h.frame ∙ ap (λ (o : Option Ballot). let r : State = record s { prepared = o } in r) e)

    found : ((x : Ballot) × (t.prepared ≡ Some x)) ⊎ (t.prepared ≡ None) → IsSomeAnd t.prepared (λ x. Accepted b (Prepared x) × IsAbove x s.prepared × IsSomeAnd s.low (λ c. x.value ≡ c.value) × (x.counter ≢ 0))
    found (inl (x, e)) = elim (above_or_same b s t (λ x. IsInA Confirm b s x) h.prepared.among (λ y f. h.prepared.greatest y (inr f)) x e) [
      | inl is ↦ absurd (same is)
      | inr new ↦
          let c = some_of (λ c. c.value ≡ x.value) s.low new.0.2 in
          some_and (λ x. Accepted b (Prepared x) × IsAbove x s.prepared × IsSomeAnd s.low (λ c. x.value ≡ c.value) × (x.counter ≢ 0)) t.prepared x e
          (new.0.1, new.1, some_and (λ c. x.value ≡ c.value) s.low c.0 c.1 (sym c.2), new.0.0.counted)
    ]
    found (inr none) = absurd (same (none_same b s t (λ x. IsInA Confirm b s x) h.prepared.among (λ y f. h.prepared.greatest y (inr f)) none))

-- 2. a confirmed ballot joins, and the vote is revised
joins : (x : Ballot) (s t : State) → Enters x s t → Joins x s t
joins x s t h = elim h.present [
  | inl first ↦ elim h.high [
    | inl high ↦ inl (first.0, first.1, high.1)
    | inr not ↦ absurd (not.0 (inl first.0))
  ]
  | inr stays ↦ elim (some_or_none s.present) [
    | inr none ↦ absurd (stays.0 (λ y e. none_some s.present y none e))
    | inl (y, e) ↦ elim (either_way x y) [
      | inr less ↦ absurd (stays.0 (λ z f. subst (λ w. IsLess w x) (some_same s.present y z e f) less))
      | inl most ↦ elim (values_decided x.value y.value) [
        | inl same ↦ elim h.high [
          | inl high ↦ inr (inl (some_and (λ b. AtMost x b × (x.value ≡ b.value)) s.present y e (most, same), stays.1, high.1))
          | inr not ↦ absurd (not.0 (inr (some_and (λ b. b.value ≡ x.value) s.present y e (sym same))))
        ]
        | inr apart ↦ elim h.high [
          | inl (inl less, is) ↦ absurd (stays.0 less)
          | inl (inr of, is) ↦ absurd (apart (sym (at_some (λ b. b.value ≡ x.value) s.present y e of)))
          | inr not ↦ inr (inr (some_and (λ b. AtMost x b × (x.value ≢ b.value)) s.present y e (most, apart), stays.1, not.1))
        ]
      ]
    ]
  ]
]

over_decided : (o : Option Ballot) (h : Ballot) → IsOver o h ⊎ (IsOver o h → ⊥)
over_decided o h = elim (some_or_none o) [
  | inr none ↦ inr (λ over. let x = some_of (λ x. IsLess h x × (x.value ≢ h.value)) o over in none_some o x.0 none x.1)
  | inl (x, e) ↦ elim (either_way h x) [
    | inr less ↦ inr (λ over. less_turn x h less (at_some (λ x. IsLess h x × (x.value ≢ h.value)) o x e over).0)
    | inl most ↦ elim (values_decided x.value h.value) [
      | inl same ↦ inr (λ over. (at_some (λ x. IsLess h x × (x.value ≢ h.value)) o x e over).1 same)
      | inr apart ↦ inl (some_and (λ x. IsLess h x × (x.value ≢ h.value)) o x e (at_most_apart h x most (λ v. apart (sym v)), apart))
    ]
  ]
]

some_over : (s : State) (h : Ballot) → (NoneOver s h → ⊥) → IsOver s.prepared h ⊎ IsOver s.prime h
some_over s h not = elim (over_decided s.prepared h) [
  | inl over ↦ inl over
  | inr free ↦ elim (over_decided s.prime h) [ inl over ↦ inr over | inr also ↦ absurd (not (free, also)) ]
]

of_decided : (v : List ℕ) (o : Option Ballot) → IsOf v o ⊎ (IsOf v o → ⊥)
of_decided v o = elim (some_or_none o) [
  | inr none ↦ inr (λ of. let x = some_of (λ x. x.value ≡ v) o of in none_some o x.0 none x.1)
  | inl (x, e) ↦ elim (values_decided x.value v) [
    | inl same ↦ inl (some_and (λ x. x.value ≡ v) o x e same)
    | inr apart ↦ inr (λ of. apart (at_some (λ x. x.value ≡ v) o x e of))
  ]
]

module _ (b : Seen) (s t : State) (h : ConfirmsInPrepare b s t) where
  abbrev Incompatible : Type 0
  Incompatible = ForSome s.low (λ c. ForSome t.present (λ b. c.value ≢ b.value))

  cleared_or_kept : ((h.cleared ≡ None) × Incompatible) ⊎ ((c : Ballot) × (s.low ≡ Some c) × (h.cleared ≡ s.low) × IsOf c.value t.present)
  cleared_or_kept = elim (some_or_none s.low) [
    | inr none ↦ inl (elim h.clears [ inl k ↦ k.1 | inr k ↦ k.1 ∙ none ], λ c e. none_some s.low c none e)
    | inl (c, e) ↦ elim h.clears [
      | inl k ↦ inl (
        k.1,
        λ d f x g same. let not = at_some (λ c. IsOf c.value t.present → ⊥) s.low c e k.0 in
            not (some_and (λ x. x.value ≡ c.value) t.present x g (sym same ∙ ap (λ (y : Ballot). y.value) (some_same s.low d c f e))),
      )
      | inr k ↦ elim (of_decided c.value t.present) [
        | inl of ↦ inr (c, e, k.1, of)
        | inr not ↦ absurd (k.0 (some_and (λ c. IsOf c.value t.present → ⊥) s.low c e not))
      ]
    ]
  ]

  low_after : LowAfter s t
  low_after = elim cleared_or_kept [
    | inr (c, e, kept, of) ↦ elim h.votes [
      | inl vote ↦ none_some s.low c (sym kept ∙ vote.0.0) e
      | inr stays ↦
          let x = some_of (λ x. x.value ≡ c.value) t.present of in
          inl (stays.1 ∙ kept, some_and (λ c. IsSomeAnd t.present (λ b. c.value ≡ b.value)) s.low c e (some_and (λ b. c.value ≡ b.value) t.present x.0 x.1 (sym x.2)))
    ]
    | inl (none, apart) ↦ elim h.votes [
      | inl vote ↦
          let x = some_of (λ x. (t.present ≡ Some x) × NoneOver s x) t.high vote.0.1 in
          inr (inl (apart, some_and (λ h. (t.present ≡ Some h) × (t.low ≡ Some h) × NoneOver s h) t.high x.0 x.1 (x.2.0, vote.1 ∙ x.2.0, x.2.1)))
      | inr stays ↦ inr (inr (
        stays.1 ∙ none,
        λ x e present. some_over s x (λ free. stays.0 (none, some_and (λ x. (t.present ≡ Some x) × NoneOver s x) t.high x e (present, free))),
        apart,
      ))
    ]
  ]

  confirms_step : ConfirmsPrepared b s t
  confirms_step = record {
    frame = h.frame;
    confirmed = elim h.joined [
      | inr same ↦ inl (same.1, same.2, same.3)
      | inl (x, greatest, above, enters) ↦
          let c : IsConfirmedCandidate b x = greatest.among x refl in
          inr (some_and (λ x. (x.counter ≢ 0) × Confirmed b (Prepared x) × IsAbove x s.confirmed × Joins x s t) t.confirmed x enters.confirmed (c.0.counted, c.1, above, joins x s t enters))
    ];
    low = low_after;
  }

-- 3. the first value, or a higher end of its range
module _ (b : Seen) (v : List ℕ) (lo hi : ℕ) (s t : State) (takes : TakesRange v lo hi s t) (lo_some : lo ≢ 0) (ascends : lo ≤ hi) (accepted : Accepted b (Committed lo hi v)) where
  present_after : IsSomeAnd t.present (λ p. (v ≡ p.value) × (hi ≤ p.counter))
  present_after = elim takes.present [
    | inl new ↦ some_and (λ p. (v ≡ p.value) × (hi ≤ p.counter)) t.present (ballot_at hi v) new.1 (refl, omega arith)
    | inr stays ↦ elim (some_or_none s.present) [
      | inr none ↦ absurd (stays.0 (λ y e. none_some s.present y none e))
      | inl (y, e) ↦ elim (either_way (ballot_at hi v) y) [
        | inr less ↦ absurd (stays.0 (λ z f. inl (subst (λ w. IsLess w (ballot_at hi v)) (some_same s.present y z e f) less)))
        | inl most ↦ elim (values_decided y.value v) [
          | inl same ↦ some_and (λ p. (v ≡ p.value) × (hi ≤ p.counter)) t.present y (stays.1 ∙ e) (sym same, at_most_counter (ballot_at hi v) y most)
          | inr apart ↦ absurd (stays.0 (λ z f. inr (λ is. apart (ap (λ (x : Ballot). x.value) (some_same s.present y z e f) ∙ is))))
        ]
      ]
    ]
  ]

  range_step : ForSome t.prepared (λ x. IsHeld s x × (x.value ≡ v)) → AcceptsCommit b s t
  range_step held = record {
    phase = ap (λ (x : State). x.phase) takes.frame;
    range = some_and (λ c. IsSomeAnd t.high (λ h. (c.counter ≢ 0) × (c.value ≡ h.value) × (c.counter ≤ h.counter) × Accepted b (Committed c.counter h.counter h.value) × IsSomeAnd t.present (λ p. (h.value ≡ p.value) × (h.counter ≤ p.counter)))) t.low (ballot_at lo v) low
        (some_and (λ h. (lo ≢ 0) × (v ≡ h.value) × (lo ≤ h.counter) × Accepted b (Committed lo h.counter h.value) × IsSomeAnd t.present (λ p. (h.value ≡ p.value) × (h.counter ≤ p.counter))) t.high (ballot_at hi v) (ap (λ (x : State). x.high) takes.frame)
        (lo_some, refl, ascends, accepted, present_after));
    prepared = λ x e. let h = held x e in (h.0, some_and (λ c. x.value ≡ c.value) t.low (ballot_at lo v) low h.1);
    prime = ap (λ (x : State). x.prime) takes.frame;
    composite = ap (λ (x : State). x.composite) takes.frame;
  }
    where
      low : t.low ≡ Some (ballot_at lo v)
      low = ap (λ (x : State). x.low) takes.frame

held_of : (v : List ℕ) (s : State) (o : Option Ballot) → IsHeldOf v s o → ForSome o (λ x. IsHeld s x × (x.value ≡ v))
held_of v s o (inl (of, same)) x e = (inl (sym same ∙ e), at_some (λ y. y.value ≡ v) s.prepared x (sym same ∙ e) of)
held_of v s o (inr (not, inl (of, same))) x e = (inr (sym same ∙ e), at_some (λ y. y.value ≡ v) s.prime x (sym same ∙ e) of)
held_of v s o (inr (not, inr (none, same))) x e = none_some o x same e

first_step : (b : Seen) (v : List ℕ) (lo hi : ℕ) (s t : State) → TakesFirst b v lo hi s t → AcceptsCommit b s t
first_step b v lo hi s t h =
    range_step b v lo hi s t h.takes h.range.low.0.counted (h.range.least hi h.range.high.0 h.range.high.1) h.range.low.1 (held_of v s t.prepared h.prepared)

-- the present ballot has the value of the range
present_of : (v : List ℕ) (s : State) → IsConfirming s → IsOf v s.low → (y : Ballot) → s.present ≡ Some y → y.value ≡ v
present_of v s ready of y e =
    let c = some_of (λ c. IsSomeAnd s.high (λ h. IsLowUnder c h × IsSomeAnd s.present (λ b. (h.value ≡ b.value) × (h.counter ≤ b.counter)))) s.low ready.range in
    let h = some_of (λ h. IsLowUnder c.0 h × IsSomeAnd s.present (λ b. (h.value ≡ b.value) × (h.counter ≤ b.counter))) s.high c.2 in
    let p = at_some (λ b. (h.0.value ≡ b.value) × (h.0.counter ≤ b.counter)) s.present y e h.2.1 in
    sym p.0 ∙ sym h.2.0.1 ∙ at_some (λ x. x.value ≡ v) s.low c.0 c.1 of

higher_step : (b : Seen) (v : List ℕ) (lo hi : ℕ) (s t : State) → IsConfirming s → TakesHigher b v lo hi s t → AcceptsCommit b s t × Grows s t
higher_step b v lo hi s t ready h = (
  range_step b v lo hi s t h.takes h.range.low.0.counted (h.range.least hi h.range.high.0 h.range.high.1) h.range.low.1
      (λ x e. let c = some_of (λ c. x.value ≡ c.value) s.low (ready.prepared x (sym h.prepared ∙ e)) in (inl (sym h.prepared ∙ e), c.2 ∙ at_some (λ x. x.value ≡ v) s.low c.0 c.1 h.of_low)),
  record {
    prepared = h.prepared;
    high = subst (λ o. counter_of s.high < counter_of o) (sym (ap (λ (x : State). x.high) h.takes.frame)) h.above;
    present = λ y e. elim h.takes.present [
      | inl new ↦ some_and (λ p. AtMost y p) t.present (ballot_at hi v) new.1 (elim (new.0 y e) [ inl less ↦ inr less | inr apart ↦ absurd (apart (present_of v s ready h.of_low y e)) ])
      | inr stays ↦ some_and (λ p. AtMost y p) t.present y (stays.1 ∙ e) (inl refl)
    ];
  },
)

-- 4. a confirmed commit
commits_step : (b : Seen) (v : List ℕ) (lo hi : ℕ) (s t : State) → Commits b v lo hi s t → ConfirmsCommit b s t
commits_step b v lo hi s t h =
    let made : State = record s { phase = Externalize; high = Some (ballot_at hi v); low = Some (ballot_at lo v) } in
    let here : ConfirmsCommit b s made = record { phase = refl; range = (h.range.low.0.counted, refl, h.range.least hi h.range.high.0 h.range.high.1, h.range.low.1); composite = refl } in
    subst (λ x. ConfirmsCommit b s x) (sym h.takes) here

-- 5. a raised counter
high_if : (w high old : Option Ballot) → Where (IsSome w) w old high → (IfSome w (λ x. high ≡ w)) × (w ≡ None → high ≡ old)
high_if None high old (inl h) = let k : false ≡ true = h.0 in cc
high_if None high old (inr h) = (tt, λ _. h.1)
high_if (Some w) high old (inl h) = (h.1, λ none. cc)
high_if (Some w) high old (inr h) = absurd (h.0 refl)

raises_step : (n : ℕ) (v : List ℕ) (s t : State) → s.phase ≡ Prepare → value_to_raise s.phase s ≡ Some v → counter_of s.present < n → Raised n v s t → Raises s t
raises_step n v s t phase value up h =
    subst (λ x. Raises s x) (sym h.frame) (raised s n v t.high t.low up (subst (λ p. value_to_raise p s ≡ Some v) phase value) (high_if s.confirmed t.high s.high highs) lows)
  where
    highs : Where (IsSome s.confirmed) s.confirmed s.high t.high
    highs = elim h.high [ inl k ↦ inl (k.0.1, k.1) | inr k ↦ inr (λ there. k.0 (phase, there), k.1) ]

    lows : (t.low ≡ None) ⊎ ((t.low ≡ s.low) × ForSome s.low (λ c. c.value ≡ v))
    lows = elim h.low [
      | inl k ↦ inl k.1
      | inr k ↦ inr (
        k.1,
        λ c e. elim (values_decided c.value v) [ inl same ↦ same | inr apart ↦ absurd (k.0 (phase, some_and (λ c. c.value ≢ v) s.low c e apart)) ],
      )
    ]

value_of_low : (o : Option Ballot) (v : List ℕ) → option_map (λ (c : Ballot). c.value) o ≡ Some v → IsSomeAnd o (λ c. v ≡ c.value)
value_of_low None v e = cc
value_of_low (Some c) v e = sym (some_same (Some c.value) c.value v refl e)

phases_apart : (p : Phase) → p ≡ Prepare → p ≡ Confirm → ⊥
phases_apart p e f = let k : Prepare ≡ Confirm = sym e ∙ f in cc

raises_more_step : (n : ℕ) (v : List ℕ) (s t : State) → s.phase ≡ Confirm → value_to_raise s.phase s ≡ Some v → counter_of s.present < n → Raised n v s t → RaisesMore s t
raises_more_step n v s t phase value up h = record {
  frame = subst (λ (x : State). x ≡ record s { present = x.present }) (sym made) refl;
  present = some_and (λ b. (counter_of s.present < b.counter) × IsSomeAnd s.low (λ c. b.value ≡ c.value)) t.present (ballot_at n v) (ap (λ (x : State). x.present) made)
      (up, value_of_low s.low v (subst (λ p. value_to_raise p s ≡ Some v) phase value));
}
  where
    high : t.high ≡ s.high
    high = elim h.high [ inl k ↦ absurd (phases_apart s.phase k.0.0 phase) | inr k ↦ k.1 ]

    low : t.low ≡ s.low
    low = elim h.low [ inl k ↦ absurd (phases_apart s.phase k.0.0 phase) | inr k ↦ k.1 ]

    made : t ≡ record s { present = Some (ballot_at n v) }
    made = h.frame ∙ ap (λ (o : Option Ballot). let r : State = record s { present = Some (ballot_at n v); high = o; low = t.low } in r) high
        ∙ ap (λ (o : Option Ballot). let r : State = record s { present = Some (ballot_at n v); high = s.high; low = o } in r) low

-- raising changed the state
module _ (b : Seen) (s t : State) (differs : t ≢ s) where
  raised_then : RaiseCounter b s t → AreAheadOf b (counter_of s.present) × ((n : ℕ) × (v : List ℕ) × (value_to_raise s.phase s ≡ Some v) × (counter_of s.present < n) × Raised n v s t)
  raised_then (inl (ahead, (n, least, inl (v, value, up, h)))) = (ahead, (n, v, value, up, h))
  raised_then (inl (ahead, (n, least, inr (idle, same)))) = absurd (differs same)
  raised_then (inr (idle, same)) = absurd (differs same)

  prepare_step : s.phase ≡ Prepare → OrElse (AcceptPrepared Prepare b) (OrElse (ConfirmPrepared Prepare b) (OrElse (AcceptCommit Prepare b) (OrElse (ConfirmCommit Prepare b) (RaiseCounter b)))) s t
      → AcceptsPrepared b s t ⊎ ConfirmsPrepared b s t ⊎ AcceptsCommit b s t ⊎ CatchesUp b s t
  prepare_step phase (inl (h, _)) = inl (accepts_step b s t h)
  prepare_step phase (inr (_, inl (h, _))) = inr (inl (confirms_step b s t h))
  prepare_step phase (inr (_, inr (_, inl (inl (v, lo, hi, h), _)))) = inr (inr (inl (first_step b v lo hi s t h)))
  prepare_step phase (inr (_, inr (_, inl (inr (none, same), _)))) = absurd (differs same)
  prepare_step phase (inr (_, inr (_, inr (_, inl (same, _))))) = absurd (differs same)
  prepare_step phase (inr (_, inr (_, inr (_, inr (_, h))))) =
      let k = raised_then h in
      inr (inr (inr (record { raises = raises_step k.1.0 k.1.1 s t phase k.1.2 k.1.3 k.1.4; ahead = k.0 })))

  confirm_step : s.phase ≡ Confirm → IsConfirming s → OrElse (AcceptPrepared Confirm b) (OrElse (ConfirmPrepared Confirm b) (OrElse (AcceptCommit Confirm b) (OrElse (ConfirmCommit Confirm b) (RaiseCounter b)))) s t
      → AcceptsMore b s t ⊎ (AcceptsCommit b s t × Grows s t) ⊎ ConfirmsCommit b s t ⊎ RaisesMore s t
  confirm_step phase ready (inl (h, _)) = inl (more_step b s t h differs)
  confirm_step phase ready (inr (_, inl (same, _))) = absurd (differs same)
  confirm_step phase ready (inr (_, inr (_, inl (inl (v, lo, hi, h), _)))) = inr (inl (higher_step b v lo hi s t ready h))
  confirm_step phase ready (inr (_, inr (_, inl (inr (none, same), _)))) = absurd (differs same)
  confirm_step phase ready (inr (_, inr (_, inr (_, inl (inl (v, lo, hi, h), _))))) = inr (inr (inl (commits_step b v lo hi s t h)))
  confirm_step phase ready (inr (_, inr (_, inr (_, inl (inr (none, same), _))))) = absurd (differs same)
  confirm_step phase ready (inr (_, inr (_, inr (_, inr (_, h))))) =
      let k = raised_then h in
      inr (inr (inr (raises_more_step k.1.0 k.1.1 s t phase k.1.2 k.1.3 k.1.4)))

  ended_still : OrElse (AcceptPrepared Externalize b) (OrElse (ConfirmPrepared Externalize b) (OrElse (AcceptCommit Externalize b) (OrElse (ConfirmCommit Externalize b) (RaiseCounter b)))) s t → s.phase ≡ Externalize → ⊥
  ended_still (inl (same, _)) phase = differs same
  ended_still (inr (_, inl (same, _))) phase = differs same
  ended_still (inr (_, inr (_, inl (same, _)))) phase = differs same
  ended_still (inr (_, inr (_, inr (_, inl (same, _))))) phase = differs same
  ended_still (inr (_, inr (_, inr (_, inr (_, h))))) phase =
      let k = raised_then h in none_some (value_to_raise s.phase s) k.1.1 (ap (λ p. value_to_raise p s) phase) k.1.2

  abbrev StepIn : Phase → Type 0
  StepIn p = OrElse (AcceptPrepared p b) (OrElse (ConfirmPrepared p b) (OrElse (AcceptCommit p b) (OrElse (ConfirmCommit p b) (RaiseCounter b)))) s t

  -- the first rule that changes a ready state is a licensed one
  pub is_step : IsReady s → Step b s t → IsStep b s t
  is_step ready h = by s.phase refl
    where
      by : (p : Phase) → s.phase ≡ p → IsStep b s t
      by Prepare e = inl (e, prepare_step e (subst StepIn e h))
      by Confirm e = inr (e, confirm_step e (subst (λ p. IsReadyIn p s) e ready) (subst StepIn e h))
      by Externalize e = absurd (ended_still (subst StepIn e h) e)
