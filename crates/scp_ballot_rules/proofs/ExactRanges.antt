-- What the rules on commits build is what the protocol says.
use Rattle.std.proofs.Common.{◌≡◌, ◌≢◌, ◌≤◌, ◌<◌, ℕ, List, Option, Some, None, IsSomeAnd, Contains, refl, sym, ◌∙◌, ap, subst, ◌⊎◌, inl, inr, arith}
use Rattle.std.specs.Option.{ForSome}
use Rattle.std.specs.declared.cmp.Ordering.TheVariants.{Less}
use Rattle.std.proofs.lemmas.Bool.{cases_order}
use Rattle.scp_vote.specs.scp_types.specs.declared.ballot.Ballot.{Ballot}
use Rattle.scp_vote.specs.scp_envelope.specs.Ballots.{IsLess, value_cmp}
use Rattle.scp_vote.specs.declared.claim.Claim.TheVariants.{Committed}
use Rattle.scp_vote.specs.Board.{Seen, Accepted, Confirmed}
use Rattle.scp_ballot_rules.specs.declared.state.State.{State}
use Rattle.scp_ballot_rules.specs.declared.state.Phase.{Phase}
use Rattle.scp_ballot_rules.specs.declared.state.Phase.TheVariants.{Prepare, Confirm, Externalize}
use Rattle.scp_ballot_rules.specs.Order.{AtMost}
use Rattle.scp_ballot_rules.specs.Own.{counter_of}
use Rattle.scp_ballot_rules.specs.Rests.{CommitsNone, CommitsNoHigher, ConfirmsNone}
use Rattle.scp_ballot_rules.specs.Owed.{IsBoundary}
use Rattle.scp_ballot_rules.specs.Greatest.{Where, IsOf, ballot_at}
use Rattle.scp_ballot_rules.specs.Range.{IsRangeOf, HasNone}
use Rattle.scp_ballot_rules.specs.AcceptCommit.{TakesRange, IsHeldOf, AcceptCommit}
use Rattle.scp_ballot_rules.specs.ConfirmCommit.{ConfirmCommit}
use Rattle.scp_ballot_rules.specs.Steps.{Answers}
use Rattle.scp_ballot_rules.proofs.Options.{some_of, some_and, some_same}
use Rattle.scp_ballot_rules.proofs.Order.{at_most_less, less_irrefl}
use Rattle.scp_ballot_rules.specs.declared.finding.Bound.{Bound}
use Rattle.scp_ballot_rules.specs.declared.finding.Bound.TheVariants.{Any, Of}
use Rattle.scp_ballot_rules.specs.declared.range.Range.{Range}
use Rattle.scp_ballot_rules.specs.declared.told.Stage.{Stage}
use Rattle.scp_ballot_rules.specs.declared.told.Stage.TheVariants.{Acceptance, Confirmation}
use Rattle.scp_ballot_rules.specs.inside.Told.{Reached}
use Rattle.scp_ballot_rules.specs.inside.Finding.{IsWithin, Precedes, IsExactRange, Reaches}
use Rattle.scp_ballot_rules.specs.Finding.{AreBoundaries}

at_most_or : (n hi : ℕ) → (n ≤ hi) ⊎ (hi < n)
at_most_or n hi = elim (cases_order n hi) [ inl e ↦ inl (omega (arith, e)) | inr apart ↦ elim apart [ inl lt ↦ inl (omega (arith, lt)) | inr gt ↦ inr gt ] ]

module _ (stage : Stage) (b : Seen) (bound : Bound) (floor : ℕ) (list : List Ballot) (all : AreBoundaries b list) (range : Range) (exact : IsExactRange stage b bound floor list range) where
  here : (((floor < range.high.counter) × IsWithin bound range.high) × Reached stage b (Committed range.high.counter range.high.counter range.high.value)) × Contains list range.high
  here = exact.high.found range.high refl

  -- no reached boundary within the bound goes before
  not_before : (x : Ballot) → IsBoundary b x.value x.counter → floor < x.counter → IsWithin bound x → Reached stage b (Committed x.counter x.counter x.value) → Precedes x range.high → ⊥
  not_before x boundary up within reached before =
      exact.high.others x ((all x).1 boundary) ((up, within), reached) (λ y e. subst (λ z. Precedes x z) (some_same (Some range.high) range.high y refl e) before)

  module _ (within : (n : ℕ) → IsWithin bound (ballot_at n range.high.value)) where
    pub range_of : IsRangeOf (λ c. Reached stage b c) b range.high.value range.low.counter range.high.counter
    range_of = record {
      high = ((all range.high).0 here.1, here.0.1);
      greatest = λ n boundary reached. elim (at_most_or n range.high.counter) [
        | inl le ↦ le
        | inr over ↦ absurd (not_before (ballot_at n range.high.value) boundary (omega (arith, here.0.0.0, over)) (within n) reached (inl (refl, over)))
      ];
      low = ((all (ballot_at range.low.counter range.high.value)).0 exact.low.among.0, exact.low.among.1);
      least = λ n boundary reached. exact.low.least (ballot_at n range.high.value) ((all (ballot_at n range.high.value)).1 boundary) refl reached;
    }

  pub earlier_none : (w : List ℕ) → value_cmp w range.high.value ≡ Less → ((n : ℕ) → IsWithin bound (ballot_at n w)) → HasNone (λ c. Reached stage b c) b w floor
  earlier_none w less within n boundary up reached = not_before (ballot_at n w) boundary up (within n) reached (inr less)

  pub low_at : range.low ≡ ballot_at range.low.counter range.high.value
  low_at = ap (λ v. ballot_at range.low.counter v) exact.compatible

reaches_where : (o : Option Ballot) (h p : Ballot) (new : Option Ballot) → new ≡ Some p → Reaches o h p → Where (ForSome o (λ x. IsLess x h ⊎ (x.value ≢ h.value))) (Some h) o new
reaches_where o h p new is (inl stays) =
    let b = some_of (λ b. AtMost h b × (b.value ≡ h.value) × (p ≡ b)) o stays in
    inr (
      λ f. elim (f b.0 b.1) [ inl less ↦ less_irrefl h (at_most_less h b.0 h b.2.0 less) | inr apart ↦ apart b.2.1 ],
      is ∙ ap Some b.2.2 ∙ sym b.1,
    )
reaches_where o h p new is (inr up) = inl (up.1, is ∙ ap Some up.0)

takes_range : (old next : State) (range : Range) (held : Option Ballot) → range.low ≡ ballot_at range.low.counter range.high.value → IsSomeAnd next.present (λ p. Reaches old.present range.high p)
    → next ≡ record old { phase = Confirm; present = next.present; prepared = held; prime = None; high = Some range.high; low = Some range.low }
    → TakesRange range.high.value range.low.counter range.high.counter old next
takes_range old next range held low reaches is =
    let p = some_of (λ p. Reaches old.present range.high p) next.present reaches in
    record {
      frame = is
          ∙ ap (λ (o : Option Ballot). let s : State = record old { phase = Confirm; present = next.present; prepared = o; prime = None; high = Some range.high; low = Some range.low } in s) (sym (ap (λ (s : State). s.prepared) is))
          ∙ ap (λ (c : Ballot). let s : State = record old { phase = Confirm; present = next.present; prepared = next.prepared; prime = None; high = Some range.high; low = Some c } in s) low;
      present = reaches_where old.present range.high p.0 next.present p.1 p.2;
    }

phases_apart : (p : Phase) → p ≡ Prepare → p ≡ Confirm → ⊥
phases_apart p e f = let k : Prepare ≡ Confirm = sym e ∙ f in cc

phases_part : (p : Phase) → p ≡ Confirm → p ≡ Externalize → ⊥
phases_part p e f = let k : Confirm ≡ Externalize = sym e ∙ f in cc

module _ (b : Seen) (old : State) (list : List Ballot) (all : AreBoundaries b list) (range : Range) where
  pub first_answers : IsExactRange Acceptance b Any 0 list range → (next : State) (held : Option Ballot) → IsSomeAnd next.present (λ p. Reaches old.present range.high p)
      → next ≡ record old { phase = Confirm; present = next.present; prepared = held; prime = None; high = Some range.high; low = Some range.low } → IsHeldOf range.high.value old held
      → old.phase ≡ Prepare → Answers (AcceptCommit Prepare b) old (Some next)
  first_answers exact next held reaches is holds phase = (
    inl (
      range.high.value,
      range.low.counter,
      range.high.counter,
      record {
        range = range_of Acceptance b Any 0 list all range exact (λ n. tt);
        first = λ w less. earlier_none Acceptance b Any 0 list all range exact w less (λ n. tt);
        takes = takes_range old next range held (low_at Acceptance b Any 0 list all range exact) reaches is;
        prepared = subst (λ o. IsHeldOf range.high.value old o) (sym (ap (λ (s : State). s.prepared) is)) holds;
      },
    ),
    λ same. phases_apart old.phase phase (ap (λ (s : State). s.phase) (sym same) ∙ ap (λ (s : State). s.phase) is),
  )

  module _ (c : Ballot) (low : old.low ≡ Some c) where
    of_low : range.high.value ≡ c.value → IsOf range.high.value old.low
    of_low e = some_and (λ x. x.value ≡ range.high.value) old.low c low (sym e)

    pub higher_answers : IsExactRange Acceptance b (Of c.value) (counter_of old.high) list range → (next : State) (held : Option Ballot) → IsSomeAnd next.present (λ p. Reaches old.present range.high p)
        → next ≡ record old { phase = Confirm; present = next.present; prepared = held; prime = None; high = Some range.high; low = Some range.low } → held ≡ old.prepared → Answers (AcceptCommit Confirm b) old (Some next)
    higher_answers exact next held reaches is same =
        let found = exact.high.found range.high refl in
        let up : counter_of old.high < range.high.counter = found.0.0.0 in (
          inl (
            range.high.value,
            range.low.counter,
            range.high.counter,
            record {
              of_low = of_low found.0.0.1;
              range = range_of Acceptance b (Of c.value) (counter_of old.high) list all range exact (λ n. found.0.0.1);
              above = up;
              takes = takes_range old next range held (low_at Acceptance b (Of c.value) (counter_of old.high) list all range exact) reaches is;
              prepared = ap (λ (s : State). s.prepared) is ∙ same;
            },
          ),
          λ e. let k : counter_of old.high ≡ range.high.counter = ap (λ (s : State). counter_of s.high) (sym e ∙ is) in absurd (omega (arith, k, up)),
        )

    pub commit_answers : IsExactRange Confirmation b (Of c.value) 0 list range → (next : State) → next ≡ record old { phase = Externalize; high = Some range.high; low = Some range.low } → old.phase ≡ Confirm → Answers (ConfirmCommit Confirm b) old (Some next)
    commit_answers exact next is phase =
        let found = exact.high.found range.high refl in (
          inl (
            range.high.value,
            range.low.counter,
            range.high.counter,
            record {
              of_low = of_low found.0.0.1;
              range = range_of Confirmation b (Of c.value) 0 list all range exact (λ n. found.0.0.1);
              takes = is ∙ ap (λ (c : Ballot). let s : State = record old { phase = Externalize; high = Some range.high; low = Some c } in s) (low_at Confirmation b (Of c.value) 0 list all range exact);
            },
          ),
          λ same. phases_part old.phase phase (ap (λ (s : State). s.phase) (sym same) ∙ ap (λ (s : State). s.phase) is),
        )

pub first_rests : (b : Seen) (old : State) → CommitsNone b → Answers (AcceptCommit Prepare b) old None
first_rests b old none = inr (λ v n boundary up. none v n boundary, refl)

of_at : (v : List ℕ) (o : Option Ballot) → IsOf v o → (c : Ballot) × (o ≡ Some c) × (c.value ≡ v)
of_at v o h = some_of (λ x. x.value ≡ v) o h

pub higher_rests : (b : Seen) (old : State) → CommitsNoHigher b old → Answers (AcceptCommit Confirm b) old None
higher_rests b old none = inr (
  λ v h n boundary up accepted.
      let c = of_at v old.low h in
      none c.0 c.1 n (subst (λ w. IsBoundary b w n) (sym c.2) boundary) up (subst (λ w. Accepted b (Committed n n w)) (sym c.2) accepted),
  refl,
)

pub commit_rests : (b : Seen) (old : State) → ConfirmsNone b old → Answers (ConfirmCommit Confirm b) old None
commit_rests b old none = inr (
  λ v h n boundary up confirmed.
      let c = of_at v old.low h in
      none c.0 c.1 n (subst (λ w. IsBoundary b w n) (sym c.2) boundary) (subst (λ w. Confirmed b (Committed n n w)) (sym c.2) confirmed),
  refl,
)
