-- What the rules on commits build is one of their steps; if they find nothing, the state is at rest.
use Rattle.std.proofs.Common.{◌≡◌, ◌≢◌, ◌<◌, ◌≤◌, ℕ, List, Option, Some, None, IsSomeAnd, Contains, refl, sym, ◌∙◌, ap, subst, inl, inr, arith}
use Rattle.scp_vote.specs.scp_types.specs.declared.ballot.Ballot.{Ballot}
use Rattle.scp_vote.specs.scp_envelope.specs.Ballots.{IsLess}
use Rattle.scp_vote.specs.declared.claim.Claim.TheVariants.{Committed}
use Rattle.scp_vote.specs.Board.{Seen, Accepted, Confirmed}
use Rattle.scp_ballot_rules.specs.declared.state.State.{State}
use Rattle.scp_ballot_rules.specs.declared.state.Phase.TheVariants.{Confirm, Externalize}
use Rattle.scp_ballot_rules.specs.Order.{AtMost}
use Rattle.scp_ballot_rules.specs.Own.{counter_of, or_zero}
use Rattle.scp_ballot_rules.specs.Ready.{IsConfirming}
use Rattle.scp_ballot_rules.specs.Rules.{AcceptsCommit, ConfirmsCommit, Grows}
use Rattle.scp_ballot_rules.specs.Rests.{CommitsNone, CommitsNoHigher, ConfirmsNone}
use Rattle.scp_ballot_rules.specs.Owed.{IsBoundary}
use Rattle.scp_ballot_rules.proofs.Options.{some_of, some_and, at_some, none_some, some_same}
use Rattle.scp_ballot_rules.proofs.Order.{at_most_counter}
use Rattle.scp_ballot_rules.proofs.FollowingMore.{present_value}
use Rattle.scp_ballot_rules.specs.declared.range.Range.{Range}
use Rattle.scp_ballot_rules.specs.declared.told.Stage.TheVariants.{Acceptance, Confirmation}
use Rattle.scp_ballot_rules.specs.Finding.{AreBoundaries}
use Rattle.scp_ballot_rules.specs.inside.Finding.{IsReachedRange, KeepsHeld, Reaches}

reaches_up : (o : Option Ballot) (h p : Ballot) → Reaches o h p → (h.value ≡ p.value) × (h.counter ≤ p.counter)
reaches_up o h p (inl stays) =
    let b = some_of (λ b. AtMost h b × (b.value ≡ h.value) × (p ≡ b)) o stays in
    (sym b.2.1 ∙ ap (λ (x : Ballot). x.value) (sym b.2.2), omega (arith, at_most_counter h b.0 b.2.0, ap (λ (x : Ballot). x.counter) b.2.2))
reaches_up o h p (inr up) = (ap (λ (x : Ballot). x.value) (sym up.0), omega (arith, ap (λ (x : Ballot). x.counter) up.0))

module _ (b : Seen) (old next : State) (range : Range) (held : Option Ballot) (reached : IsReachedRange Acceptance b range)
    (reaches : IsSomeAnd next.present (λ p. Reaches old.present range.high p))
    (is : next ≡ record old { phase = Confirm; present = next.present; prepared = held; prime = None; high = Some range.high; low = Some range.low }) where
  low_is : next.low ≡ Some range.low
  low_is = ap (λ (s : State). s.low) is

  high_is : next.high ≡ Some range.high
  high_is = ap (λ (s : State). s.high) is

  pub accepts_commit : KeepsHeld old range.high.value held → AcceptsCommit b old next
  accepts_commit keeps =
      let p = some_of (λ p. Reaches old.present range.high p) next.present reaches in
      record {
        phase = ap (λ (s : State). s.phase) is;
        range = some_and (λ c. IsSomeAnd next.high (λ h. (c.counter ≢ 0) × (c.value ≡ h.value) × (c.counter ≤ h.counter) × Accepted b (Committed c.counter h.counter h.value)
            × IsSomeAnd next.present (λ p. (h.value ≡ p.value) × (h.counter ≤ p.counter)))) next.low range.low low_is
            (some_and (λ h. (range.low.counter ≢ 0) × (range.low.value ≡ h.value) × (range.low.counter ≤ h.counter) × Accepted b (Committed range.low.counter h.counter h.value)
            × IsSomeAnd next.present (λ p. (h.value ≡ p.value) × (h.counter ≤ p.counter))) next.high range.high high_is
            (reached.counted, reached.compatible, reached.ascends, reached.reached, some_and (λ p. (range.high.value ≡ p.value) × (range.high.counter ≤ p.counter)) next.present p.0 p.1 (reaches_up old.present range.high p.0 p.2)));
        prepared = λ x e.
            let was = keeps x (sym (ap (λ (s : State). s.prepared) is) ∙ e) in
            (was.0, some_and (λ c. x.value ≡ c.value) next.low range.low low_is (was.1 ∙ sym reached.compatible));
        prime = ap (λ (s : State). s.prime) is;
        composite = ap (λ (s : State). s.composite) is;
      }

  module _ (ready : IsConfirming old) (same : held ≡ old.prepared) (c : Ballot) (low : old.low ≡ Some c) (above : counter_of old.high < range.high.counter) (value : range.high.value ≡ c.value) where
    pub keeps_all : KeepsHeld old range.high.value held
    keeps_all x e =
        let was : old.prepared ≡ Some x = sym same ∙ e in
        (inl was, at_some (λ c. x.value ≡ c.value) old.low c low (ready.prepared x was) ∙ sym value)

    pub grows : Grows old next
    grows = record {
      prepared = ap (λ (s : State). s.prepared) is ∙ same;
      high = omega (arith, above, ap counter_of high_is);
      present = λ p e.
          let q = some_of (λ p. Reaches old.present range.high p) next.present reaches in
          let there : p.value ≡ range.high.value = ap (λ o. (or_zero o).value) (sym e) ∙ sym (present_value old ready c low) ∙ sym value in
          some_and (λ q. AtMost p q) next.present q.0 q.1 (elim q.2 [
            | inl stays ↦ (let k = at_some (λ b. AtMost range.high b × (b.value ≡ range.high.value) × (q.0 ≡ b)) old.present p e stays in inl (sym k.2))
            | inr up ↦ elim (up.1 p e) [ inl less ↦ inr (subst (λ h. IsLess p h) (sym up.0) less) | inr apart ↦ absurd (apart there) ]
          ]);
    }

module _ (b : Seen) (list : List Ballot) (all : AreBoundaries b list) where
  pub none_zero : (x : Ballot) → Contains list x → x.counter ≢ 0
  none_zero x h = ((all x).0 h).counted

  module _ (floor : ℕ) (v : List ℕ) (n : ℕ) (boundary : IsBoundary b v n) (above : floor < n) where
    here : Ballot
    here = record { counter = n; value = v }

    pub at_boundary : (P : Ballot → Type 0) → ((x : Ballot) → Contains list x → floor < x.counter → x.value ≡ v → P x → ⊥) → P (record { counter = n; value = v }) → ⊥
    at_boundary P none p = none (record { counter = n; value = v }) ((all (record { counter = n; value = v })).1 boundary) above refl p

  positive : (n : ℕ) → n ≢ 0 → 0 < n
  positive n h = omega (arith, h)

  pub commits_none : ((x : Ballot) → Contains list x → 0 < x.counter → Unit {0} → Accepted b (Committed x.counter x.counter x.value) → ⊥) → CommitsNone b
  commits_none none v n boundary accepted =
      at_boundary 0 v n boundary (positive n boundary.counted) (λ x. Accepted b (Committed x.counter x.counter x.value)) (λ x has up same a. none x has up tt a) accepted

  pub commits_no_higher : (s : State) (c : Ballot) → s.low ≡ Some c → ((x : Ballot) → Contains list x → counter_of s.high < x.counter → x.value ≡ c.value → Accepted b (Committed x.counter x.counter x.value) → ⊥) → CommitsNoHigher b s
  commits_no_higher s c is none d e n boundary above accepted =
      let same : c ≡ d = some_same s.low c d is e in
      at_boundary (counter_of s.high) d.value n boundary above (λ x. Accepted b (Committed x.counter x.counter x.value)) (λ x has up value a. none x has up (value ∙ ap (λ (y : Ballot). y.value) (sym same)) a) accepted

  pub confirms_none : (s : State) (c : Ballot) → s.low ≡ Some c → ((x : Ballot) → Contains list x → 0 < x.counter → x.value ≡ c.value → Confirmed b (Committed x.counter x.counter x.value) → ⊥) → ConfirmsNone b s
  confirms_none s c is none d e n boundary confirmed =
      let same : c ≡ d = some_same s.low c d is e in
      at_boundary 0 d.value n boundary (positive n boundary.counted) (λ x. Confirmed b (Committed x.counter x.counter x.value)) (λ x has up value a. none x has up (value ∙ ap (λ (y : Ballot). y.value) (sym same)) a) confirmed

-- without a low end there is nothing to say
pub no_low_higher : (b : Seen) (s : State) → s.low ≡ None → CommitsNoHigher b s
no_low_higher b s none c e = none_some s.low c none e

pub no_low_none : (b : Seen) (s : State) → s.low ≡ None → ConfirmsNone b s
no_low_none b s none c e = none_some s.low c none e

pub confirms_commit : (b : Seen) (old next : State) (range : Range) → IsReachedRange Confirmation b range → next ≡ record old { phase = Externalize; high = Some range.high; low = Some range.low } → ConfirmsCommit b old next
confirms_commit b old next range reached is = record {
  phase = ap (λ (s : State). s.phase) is;
  range = some_and (λ c. IsSomeAnd next.high (λ h. (c.counter ≢ 0) × (c.value ≡ h.value) × (c.counter ≤ h.counter) × Confirmed b (Committed c.counter h.counter h.value))) next.low range.low (ap (λ (s : State). s.low) is)
      (some_and (λ h. (range.low.counter ≢ 0) × (range.low.value ≡ h.value) × (range.low.counter ≤ h.counter) × Confirmed b (Committed range.low.counter h.counter h.value)) next.high range.high (ap (λ (s : State). s.high) is)
      (reached.counted, reached.compatible, reached.ascends, reached.reached));
  composite = ap (λ (s : State). s.composite) is;
}
