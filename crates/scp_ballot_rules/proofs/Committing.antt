-- Accepting and confirming a commit keep the state ready.
use Rattle.std.proofs.Common.{◌≡◌, ◌≢◌, ◌≤◌, Option, Some, None, IsSomeAnd, refl, sym, ◌∙◌, ap, subst, ◌⊎◌, inl, inr, arith}
use Rattle.std.specs.Option.{ForSome}
use Rattle.scp_vote.specs.scp_types.specs.declared.ballot.Ballot.{Ballot}
use Rattle.scp_vote.specs.declared.claim.Claim.TheVariants.{Prepared, Committed}
use Rattle.scp_vote.specs.Board.{Seen, Accepted, Confirmed}
use Rattle.scp_ballot_rules.specs.declared.state.State.{State}
use Rattle.scp_ballot_rules.specs.Order.{IsAbove}
use Rattle.scp_ballot_rules.specs.Ready.{IsLowUnder, IsConfirming, IsExternalized}
use Rattle.scp_ballot_rules.specs.Rules.{AcceptsMore, AcceptsCommit, ConfirmsCommit, IsHeld}
use Rattle.scp_ballot_rules.proofs.Options.{some_of, some_and, at_some, same_some_and, some_same}

pub committing_keeps : (b : Seen) (old next : State) → AcceptsCommit b old next → IsConfirming next
committing_keeps b old next step =
    let c = some_of (λ c. IsSomeAnd next.high (λ h. (c.counter ≢ 0) × (c.value ≡ h.value) × (c.counter ≤ h.counter) × Accepted b (Committed c.counter h.counter h.value)
    × IsSomeAnd next.present (λ p. (h.value ≡ p.value) × (h.counter ≤ p.counter)))) next.low step.range in
    let h = some_of (λ h. (c.0.counter ≢ 0) × (c.0.value ≡ h.value) × (c.0.counter ≤ h.counter) × Accepted b (Committed c.0.counter h.counter h.value)
    × IsSomeAnd next.present (λ p. (h.value ≡ p.value) × (h.counter ≤ p.counter))) next.high c.2 in
    record {
      range = some_and (λ c. IsSomeAnd next.high (λ h. IsLowUnder c h × IsSomeAnd next.present (λ b. (h.value ≡ b.value) × (h.counter ≤ b.counter)))) next.low c.0 c.1
          (some_and (λ h. IsLowUnder c.0 h × IsSomeAnd next.present (λ b. (h.value ≡ b.value) × (h.counter ≤ b.counter))) next.high h.0 h.1 ((h.2.0, h.2.1, h.2.2), h.2.4));
      prepared = λ x e. (step.prepared x e).1;
      prime = step.prime;
    }

pub externalizing_keeps : (b : Seen) (old next : State) → ConfirmsCommit b old next → IsExternalized next
externalizing_keeps b old next step =
    let c = some_of (λ c. IsSomeAnd next.high (λ h. (c.counter ≢ 0) × (c.value ≡ h.value) × (c.counter ≤ h.counter) × Confirmed b (Committed c.counter h.counter h.value))) next.low step.range in
    let h = some_of (λ h. (c.0.counter ≢ 0) × (c.0.value ≡ h.value) × (c.0.counter ≤ h.counter) × Confirmed b (Committed c.0.counter h.counter h.value)) next.high c.2 in
    record { range = some_and (λ c. IsSomeAnd next.high (λ h. IsLowUnder c h)) next.low c.0 c.1 (some_and (λ h. IsLowUnder c.0 h) next.high h.0 h.1 (h.2.0, h.2.1, h.2.2)) }

pub accepting_more_keeps : (b : Seen) (old next : State) → IsConfirming old → AcceptsMore b old next → IsConfirming next
accepting_more_keeps b old next ready step =
    let same_low : next.low ≡ old.low = ap (λ (s : State). s.low) step.frame in
    let same_high : next.high ≡ old.high = ap (λ (s : State). s.high) step.frame in
    let same_present : next.present ≡ old.present = ap (λ (s : State). s.present) step.frame in
    let c = some_of (λ c. IsSomeAnd old.high (λ h. IsLowUnder c h × IsSomeAnd old.present (λ b. (h.value ≡ b.value) × (h.counter ≤ b.counter)))) old.low ready.range in
    let h = some_of (λ h. IsLowUnder c.0 h × IsSomeAnd old.present (λ b. (h.value ≡ b.value) × (h.counter ≤ b.counter))) old.high c.2 in
    let x = some_of (λ x. Accepted b (Prepared x) × IsAbove x old.prepared × IsSomeAnd old.low (λ c. x.value ≡ c.value) × (x.counter ≢ 0)) next.prepared step.prepared in
    record {
      range = some_and (λ c. IsSomeAnd next.high (λ h. IsLowUnder c h × IsSomeAnd next.present (λ b. (h.value ≡ b.value) × (h.counter ≤ b.counter)))) next.low c.0 (same_low ∙ c.1)
          (some_and (λ h. IsLowUnder c.0 h × IsSomeAnd next.present (λ b. (h.value ≡ b.value) × (h.counter ≤ b.counter))) next.high h.0 (same_high ∙ h.1)
          (h.2.0, same_some_and (λ b. (h.0.value ≡ b.value) × (h.0.counter ≤ b.counter)) old.present next.present (sym same_present) h.2.1));
      prepared = λ y e. same_some_and (λ c. y.value ≡ c.value) old.low next.low (sym same_low)
          (let P : Ballot → Type 0 = λ y. IsSomeAnd old.low (λ c. y.value ≡ c.value) in subst P (some_same next.prepared x.0 y x.1 e) x.2.2);
      prime = ap (λ (s : State). s.prime) step.frame ∙ ready.prime;
    }
