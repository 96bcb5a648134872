-- How the rules answer, one after the other, and what raising a counter answers.
use Rattle.std.proofs.Common.{◌≡◌, ◌≢◌, ◌<◌, ℕ, List, Option, Some, None, IsSome, IsSomeAnd, refl, sym, ◌∙◌, ap, subst, ◌⊎◌, inl, inr, arith}
use Rattle.std.specs.Option.{option_map}
use Rattle.scp_vote.specs.scp_types.specs.declared.ballot.Ballot.{Ballot}
use Rattle.scp_vote.specs.Board.{Seen}
use Rattle.scp_ballot_rules.specs.declared.state.State.{State}
use Rattle.scp_ballot_rules.specs.declared.state.Phase.{Phase}
use Rattle.scp_ballot_rules.specs.declared.state.Phase.TheVariants.{Prepare, Confirm, Externalize}
use Rattle.scp_ballot_rules.specs.Own.{counter_of}
use Rattle.scp_ballot_rules.specs.Ready.{HasValue}
use Rattle.scp_ballot_rules.specs.Rules.{raised_value}
use Rattle.scp_ballot_rules.specs.Owed.{AreAheadOf}
use Rattle.scp_ballot_rules.specs.Greatest.{Where, ballot_at}
use Rattle.scp_ballot_rules.specs.AcceptPrepared.{AcceptPrepared}
use Rattle.scp_ballot_rules.specs.ConfirmPrepared.{ConfirmPrepared}
use Rattle.scp_ballot_rules.specs.AcceptCommit.{AcceptCommit}
use Rattle.scp_ballot_rules.specs.ConfirmCommit.{ConfirmCommit}
use Rattle.scp_ballot_rules.specs.RaiseCounter.{value_to_raise, RaiseTo, IsLeastFree, RaiseCounter}
use Rattle.scp_ballot_rules.specs.Steps.{OrElse, Answers, Step}

pub answers_first : (R Q : State → State → Type 0) (s t : State) → Answers R s (Some t) → Answers (OrElse R Q) s (Some t)
answers_first R Q s t h = (inl h, h.1)

pub answers_then : (R Q : State → State → Type 0) (s : State) (o : Option State) → Answers R s None → Answers Q s o → Answers (OrElse R Q) s o
answers_then R Q s None rests h = inr (rests, h)
answers_then R Q s (Some t) rests h = (inr (rests, h.0), h.1)

along : (R Q : State → State → Type 0) (s : State) → ((t : State) → R s t → Q s t) → (o : Option State) → Answers R s o → Answers Q s o
along R Q s f None h = f s h
along R Q s f (Some t) h = (f t h.0, h.1)

-- the first two rules as one
joined : (R Q T : State → State → Type 0) (s t : State) → OrElse (OrElse R Q) T s t → OrElse R (OrElse Q T) s t
joined R Q T s t (inl (inl h, differs)) = inl h
joined R Q T s t (inl (inr (rests, q), differs)) = inr (rests, inl (q, differs))
joined R Q T s t (inr (inl h, k)) = absurd (h.1 refl)
joined R Q T s t (inr (inr (r, q), k)) = inr (r, inr (q, k))

abbrev Same : State → State → Type 0
Same s t = t ≡ s

preparing : (b : Seen) (s t : State) → OrElse (OrElse (AcceptPrepared Prepare b) (ConfirmPrepared Prepare b)) (OrElse (AcceptCommit Prepare b) (RaiseCounter b)) s t
    → OrElse (AcceptPrepared Prepare b) (OrElse (ConfirmPrepared Prepare b) (OrElse (AcceptCommit Prepare b) (OrElse (ConfirmCommit Prepare b) (RaiseCounter b)))) s t
preparing b s t h = elim (joined (AcceptPrepared Prepare b) (ConfirmPrepared Prepare b) (OrElse (AcceptCommit Prepare b) (RaiseCounter b)) s t h) [
  | inl first ↦ inl first
  | inr (r, inl second) ↦ inr (r, inl second)
  | inr (r, inr (q, inl third)) ↦ inr (r, inr (q, inl third))
  | inr (r, inr (q, inr (k, last))) ↦ inr (r, inr (q, inr (k, inr (refl, last))))
]

confirming : (b : Seen) (s t : State) → OrElse (AcceptPrepared Confirm b) (OrElse (OrElse (AcceptCommit Confirm b) (ConfirmCommit Confirm b)) (RaiseCounter b)) s t
    → OrElse (AcceptPrepared Confirm b) (OrElse (ConfirmPrepared Confirm b) (OrElse (AcceptCommit Confirm b) (OrElse (ConfirmCommit Confirm b) (RaiseCounter b)))) s t
confirming b s t (inl first) = inl first
confirming b s t (inr (r, h)) = inr (r, inr (refl, joined (AcceptCommit Confirm b) (ConfirmCommit Confirm b) (RaiseCounter b) s t h))

pub step_preparing : (b : Seen) (s : State) (o : Option State) → s.phase ≡ Prepare → Answers (OrElse (OrElse (AcceptPrepared Prepare b) (ConfirmPrepared Prepare b)) (OrElse (AcceptCommit Prepare b) (RaiseCounter b))) s o → Answers (Step b) s o
step_preparing b s o phase h = along (OrElse (OrElse (AcceptPrepared Prepare b) (ConfirmPrepared Prepare b)) (OrElse (AcceptCommit Prepare b) (RaiseCounter b))) (Step b) s
    (λ t k. subst (λ p. OrElse (AcceptPrepared p b) (OrElse (ConfirmPrepared p b) (OrElse (AcceptCommit p b) (OrElse (ConfirmCommit p b) (RaiseCounter b)))) s t) (sym phase) (preparing b s t k)) o h

pub step_confirming : (b : Seen) (s : State) (o : Option State) → s.phase ≡ Confirm → Answers (OrElse (AcceptPrepared Confirm b) (OrElse (OrElse (AcceptCommit Confirm b) (ConfirmCommit Confirm b)) (RaiseCounter b))) s o → Answers (Step b) s o
step_confirming b s o phase h = along (OrElse (AcceptPrepared Confirm b) (OrElse (OrElse (AcceptCommit Confirm b) (ConfirmCommit Confirm b)) (RaiseCounter b))) (Step b) s
    (λ t k. subst (λ p. OrElse (AcceptPrepared p b) (OrElse (ConfirmPrepared p b) (OrElse (AcceptCommit p b) (OrElse (ConfirmCommit p b) (RaiseCounter b)))) s t) (sym phase) (confirming b s t k)) o h

-- what is externalized rests
pub step_ended : (b : Seen) (s : State) → s.phase ≡ Externalize → Answers (Step b) s None
step_ended b s phase = subst (λ p. OrElse (AcceptPrepared p b) (OrElse (ConfirmPrepared p b) (OrElse (AcceptCommit p b) (OrElse (ConfirmCommit p b) (RaiseCounter b)))) s s) (sym phase)
    (inr (refl, inr (refl, inr (refl, inr (refl, inr (λ _. ap (λ p. value_to_raise p s) phase, refl))))))

-- raising
module _ (n : ℕ) (s : State) where
  pub raises_to : (v : List ℕ) (high low : Option Ballot) (next : State) → s.phase ≡ Prepare → counter_of s.present < n → raised_value s.confirmed s.composite s.prepared ≡ Some v → Where (IsSome s.confirmed) s.confirmed s.high high
      → Where (IsSomeAnd s.low (λ c. c.value ≢ v)) None s.low low → next ≡ record s { present = Some (ballot_at n v); high = high; low = low } → Answers (RaiseTo n) s (Some next)
  raises_to v high low next phase up value highs lows is = (
    subst (λ t. RaiseTo n s t) (sym is) (inl (
      v,
      subst (λ p. value_to_raise p s ≡ Some v) (sym phase) value,
      up,
      record {
        frame = refl;
        high = elim highs [ inl h ↦ inl ((phase, h.0), h.1) | inr h ↦ inr (λ k. h.0 k.1, h.1) ];
        low = elim lows [ inl h ↦ inl ((phase, h.0), h.1) | inr h ↦ inr (λ k. h.0 k.1, h.1) ];
      },
    )),
    λ same. let e : n ≡ counter_of s.present = ap (λ (r : State). counter_of r.present) (sym is ∙ same) in absurd (omega (arith, e, up)),
  )

  pub no_value_rests : s.phase ≡ Prepare → raised_value s.confirmed s.composite s.prepared ≡ None → Answers (RaiseTo n) s None
  no_value_rests phase none = inr (inl (subst (λ p. value_to_raise p s ≡ None) (sym phase) none), refl)

  pub raises_more_to : (c : Ballot) (next : State) → s.phase ≡ Confirm → s.low ≡ Some c → counter_of s.present < n → next ≡ record s { present = Some (ballot_at n c.value) } → Answers (RaiseTo n) s (Some next)
  raises_more_to c next phase low up is = (
    subst (λ t. RaiseTo n s t) (sym is) (inl (
      c.value,
      subst (λ p. value_to_raise p s ≡ Some c.value) (sym phase) (ap (λ o. option_map (λ (c : Ballot). c.value) o) low),
      up,
      record {
        frame = refl;
        high = inr (λ k. phases_apart s.phase k.0 phase, refl);
        low = inr (λ k. phases_apart s.phase k.0 phase, refl);
      },
    )),
    λ same. let e : n ≡ counter_of s.present = ap (λ (r : State). counter_of r.present) (sym is ∙ same) in absurd (omega (arith, e, up)),
  )
    where
      phases_apart : (p : Phase) → p ≡ Prepare → p ≡ Confirm → ⊥
      phases_apart p e f = let k : Prepare ≡ Confirm = sym e ∙ f in cc

  pub no_low_to : s.phase ≡ Confirm → s.low ≡ None → Answers (RaiseTo n) s None
  no_low_to phase low = inr (inl (subst (λ p. value_to_raise p s ≡ None) (sym phase) (ap (λ o. option_map (λ (c : Ballot). c.value) o) low)), refl)

pub raise_answers : (b : Seen) (s : State) (n : ℕ) (o : Option State) → AreAheadOf b (counter_of s.present) → IsLeastFree b n → Answers (RaiseTo n) s o → Answers (RaiseCounter b) s o
raise_answers b s n None ahead least h = inl (ahead, (n, least, h))
raise_answers b s n (Some t) ahead least h = (inl (ahead, (n, least, h.0)), h.1)

pub not_ahead_rests : (b : Seen) (s : State) → ¬ (AreAheadOf b (counter_of s.present)) → Answers (RaiseCounter b) s None
not_ahead_rests b s not = inr (λ ahead. absurd (not ahead), refl)

none_without : (w : Option Ballot) (z : Option (List ℕ)) (p : Option Ballot) → (IsSome w ⊎ IsSome z ⊎ IsSome p → ⊥) → raised_value w z p ≡ None
none_without (Some w) z p h = absurd (h (inl refl))
none_without None (Some z) p h = absurd (h (inr (inl refl)))
none_without None None (Some p) h = absurd (h (inr (inr refl)))
none_without None None None h = refl

pub no_value_at_all : (b : Seen) (s : State) → s.phase ≡ Prepare → (HasValue s → ⊥) → Answers (RaiseCounter b) s None
no_value_at_all b s phase none = inr (λ _. subst (λ p. value_to_raise p s ≡ None) (sym phase) (none_without s.confirmed s.composite s.prepared none), refl)
