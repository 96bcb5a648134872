-- One rule leaves the phase and the counter, or raises them.
use Rattle.std.proofs.Common.{◌≡◌, ◌≢◌, ◌<◌, ◌≤◌, ℕ, Option, Some, None, IsSomeAnd, refl, sym, ◌∙◌, ap, ◌⊎◌, inl, inr, arith}
use Rattle.std.specs.Option.{ForSome}
use Rattle.scp_vote.specs.scp_types.specs.declared.ballot.Ballot.{Ballot}
use Rattle.scp_vote.specs.scp_envelope.specs.Ballots.{IsLess}
use Rattle.scp_vote.specs.declared.claim.Claim.TheVariants.{Prepared}
use Rattle.scp_vote.specs.Board.{Seen, Confirmed}
use Rattle.scp_ballot_rules.specs.declared.state.State.{State}
use Rattle.scp_ballot_rules.specs.declared.state.Phase.TheVariants.{Prepare, Confirm, Externalize}
use Rattle.scp_ballot_rules.specs.Order.{AtMost, IsAbove}
use Rattle.scp_ballot_rules.specs.Own.{counter_of}
use Rattle.scp_ballot_rules.specs.Rules.{Joins, ConfirmsPrepared, Grows}
use Rattle.scp_ballot_rules.specs.inside.Rules.{IsStep, IsChange}
use Rattle.scp_ballot_rules.specs.inside.Rises.{place, Rises}
use Rattle.scp_ballot_rules.proofs.Options.{some_of, some_or_none}
use Rattle.scp_ballot_rules.proofs.Order.{less_counter, at_most_counter}

pub rises_trans : (s t u : State) → Rises s t → Rises t u → Rises s u
rises_trans s t u (inl h) (inl k) = inl (omega (arith, h, k))
rises_trans s t u (inl h) (inr k) = inl (omega (arith, h, ap place k.0))
rises_trans s t u (inr h) (inl k) = inl (omega (arith, k, ap place h.0))
rises_trans s t u (inr h) (inr k) = inr (k.0 ∙ h.0, omega (arith, h.1, k.1))

pub rises_itself : (s : State) → Rises s s
rises_itself s = inr (refl, omega arith)

same_present : (old next : State) → next.phase ≡ old.phase → next.present ≡ old.present → Rises old next
same_present old next phase e = inr (phase, omega (arith, ap counter_of e))

above_counter : (o : Option Ballot) (x : Ballot) → ForSome o (λ b. IsLess b x) → counter_of o ≤ x.counter
above_counter None x h = omega arith
above_counter (Some y) x h = less_counter y x (h y refl)

grown : (o n : Option Ballot) → ForSome o (λ b. IsSomeAnd n (λ p. AtMost b p)) → counter_of o ≤ counter_of n
grown None n h = omega arith
grown (Some b) None h = absurd (h b refl)
grown (Some b) (Some p) h = at_most_counter b p (h b refl)

confirming_rises : (b : Seen) (old next : State) → ConfirmsPrepared b old next → Rises old next
confirming_rises b old next step = elim step.confirmed [
  | inl stale ↦ same_present old next (ap (λ (s : State). s.phase) step.frame) stale.1
  | inr fresh ↦
      let x = some_of (λ x. (x.counter ≢ 0) × Confirmed b (Prepared x) × IsAbove x old.confirmed × Joins x old next) next.confirmed fresh in
      elim x.2.3 [
        | inl raised ↦ inr (ap (λ (s : State). s.phase) step.frame, omega (arith, above_counter old.present x.0 raised.0, ap counter_of raised.1))
        | inr (inl joined) ↦ same_present old next (ap (λ (s : State). s.phase) step.frame) joined.1
        | inr (inr apart) ↦ same_present old next (ap (λ (s : State). s.phase) step.frame) apart.1
      ]
]

later : (old next : State) (m n : ℕ) → place old.phase ≡ m → place next.phase ≡ n → m < n → Rises old next
later old next m n e f h = inl (omega (arith, e, f, h))

pub step_rises : (b : Seen) (old next : State) → IsStep b old next → Rises old next
step_rises b old next (inl (phase, inl step)) = same_present old next (ap (λ (s : State). s.phase) step.frame) (ap (λ (s : State). s.present) step.frame)
step_rises b old next (inl (phase, inr (inl step))) = confirming_rises b old next step
step_rises b old next (inl (phase, inr (inr (inl step)))) = later old next 0 1 (ap place phase) (ap place step.phase) (omega arith)
step_rises b old next (inl (phase, inr (inr (inr step)))) =
    let p = some_of (λ b. (counter_of old.present < b.counter) × ForSome old.confirmed (λ w. b.value ≡ w.value)) next.present step.raises.present in
    inr (ap (λ (s : State). s.phase) step.raises.frame, omega (arith, p.2.0, ap counter_of p.1))
step_rises b old next (inr (phase, inl step)) = same_present old next (ap (λ (s : State). s.phase) step.frame) (ap (λ (s : State). s.present) step.frame)
step_rises b old next (inr (phase, inr (inl step))) = inr (step.0.phase ∙ sym phase, grown old.present next.present step.1.present)
step_rises b old next (inr (phase, inr (inr (inl step)))) = later old next 1 2 (ap place phase) (ap place step.phase) (omega arith)
step_rises b old next (inr (phase, inr (inr (inr step)))) =
    let p = some_of (λ b. (counter_of old.present < b.counter) × IsSomeAnd old.low (λ c. b.value ≡ c.value)) next.present step.present in
    inr (ap (λ (s : State). s.phase) step.frame, omega (arith, p.2.0, ap counter_of p.1))
