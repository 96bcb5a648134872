-- One rule moves the present ballot no other way.
use Rattle.std.proofs.Common.{◌≡◌, ◌≢◌, ◌<◌, ◌≤◌, ℕ, List, Option, Some, None, IsSomeAnd, refl, sym, ◌∙◌, ap, subst, ◌⊎◌, inl, inr, arith}
use Rattle.std.specs.Option.{ForSome}
use Rattle.scp_vote.specs.scp_types.specs.declared.ballot.Ballot.{Ballot}
use Rattle.scp_vote.specs.scp_types.specs.declared.names.NodeId.{NodeId}
use Rattle.scp_vote.specs.scp_quorum.specs.QuorumTree.{QuorumTree}
use Rattle.scp_vote.specs.scp_quorum.specs.Satisfies.{Blocks}
use Rattle.scp_vote.specs.scp_envelope.specs.declared.statement.Pledges.{Pledges}
use Rattle.scp_vote.specs.declared.claim.Claim.TheVariants.{Prepared}
use Rattle.scp_vote.specs.Board.{Seen, Confirmed}
use Rattle.scp_ballot_rules.specs.declared.state.State.{State}
use Rattle.scp_ballot_rules.specs.declared.state.Phase.{Phase}
use Rattle.scp_ballot_rules.specs.declared.state.Phase.TheVariants.{Prepare, Confirm, Externalize}
use Rattle.scp_ballot_rules.specs.Order.{IsAbove}
use Rattle.scp_ballot_rules.specs.Own.{counter_of}
use Rattle.scp_ballot_rules.specs.Owed.{AreAheadOf, counter_in}
use Rattle.scp_ballot_rules.specs.Ready.{IsPreparing, IsReadyIn, IsReady}
use Rattle.scp_ballot_rules.specs.Rules.{raised_value, Joins, ConfirmsPrepared}
use Rattle.scp_ballot_rules.specs.inside.Rules.{Raises, CatchesUp, Composes, IsStep}
use Rattle.scp_ballot_rules.specs.inside.Rises.{place, HasComposite, Moves}
use Rattle.scp_ballot_rules.proofs.Options.{some_of, some_and, at_some, some_same, none_some, some_or_none}
use Rattle.scp_ballot_rules.proofs.Rising.{step_rises}

-- which nodes are ahead depends only on the others' statements and the local set
pub ahead_same : (b c : Seen) (n : ℕ) → c.me ≡ b.me → c.local ≡ b.local → ((v : NodeId) → v ≢ b.me → c.statement v ≡ b.statement v) → AreAheadOf c n → AreAheadOf b n
ahead_same b c n me local same ahead = record {
  nodes = ahead.nodes;
  others = λ v yes.
      let was = ahead.others v yes in
      let apart : v ≢ b.me = λ e. was.0 (e ∙ sym me) in
      (apart, subst (λ (o : Option Pledges). IsSomeAnd o (λ p. n < counter_in p)) (same v apart) was.1);
  block = subst (λ (q : QuorumTree). Blocks ahead.nodes q) local ahead.block;
}

-- a rule leaves the composite
pub step_composite : (b : Seen) (old next : State) → IsStep b old next → next.composite ≡ old.composite
step_composite b old next (inl (phase, inl step)) = ap (λ (s : State). s.composite) step.frame
step_composite b old next (inl (phase, inr (inl step))) = ap (λ (s : State). s.composite) step.frame
step_composite b old next (inl (phase, inr (inr (inl step)))) = step.composite
step_composite b old next (inl (phase, inr (inr (inr step)))) = ap (λ (s : State). s.composite) step.raises.frame
step_composite b old next (inr (phase, inl step)) = ap (λ (s : State). s.composite) step.frame
step_composite b old next (inr (phase, inr (inl step))) = step.0.composite
step_composite b old next (inr (phase, inr (inr (inl step)))) = step.composite
step_composite b old next (inr (phase, inr (inr (inr step)))) = ap (λ (s : State). s.composite) step.frame

pub moves_itself : (b : Seen) (s : State) → Moves b s s
moves_itself b s phase = inl (refl, refl)

raised_from : (z : List ℕ) (w p : Option Ballot) (v : List ℕ) → w ≡ None → raised_value w (Some z) p ≡ Some v → v ≡ z
raised_from z None p v none e = cc
raised_from z (Some x) p v none e = cc

-- a raised counter: the confirmed ballot's, or with the composite's value
pub raised_moves : (old next : State) → IsPreparing old → Raises old next → (counter_of next.high ≢ 0) ⊎ ((old.confirmed ≡ None) × (next.high ≡ old.high) × HasComposite next)
raised_moves old next ready step = elim (some_or_none old.confirmed) [
  | inl w ↦ inl (λ zero. ready.counted w.0 w.1 (sym (ap counter_of (step.high w.0 w.1)) ∙ zero))
  | inr none ↦ inr (
    none,
    step.no_high none,
    λ z e.
        let p = some_of (λ b. raised_value old.confirmed old.composite old.prepared ≡ Some b.value) next.present step.raised in
        let there : old.composite ≡ Some z = sym (ap (λ (s : State). s.composite) step.frame) ∙ e in
        some_and (λ x. x.value ≡ z) next.present p.0 p.1 (raised_from z old.confirmed old.prepared p.0.value none (sym (ap (λ o. raised_value old.confirmed o old.prepared) there) ∙ p.2)),
  )
]

phases_apart : (p : Phase) → p ≡ Prepare → p ≡ Confirm → ⊥
phases_apart p e f = let k : Prepare ≡ Confirm = sym e ∙ f in cc

-- what held still holds if present, high and composite are the same
carried : (b : Seen) (s t u : State) → Moves b s t → t.phase ≡ Prepare → u.present ≡ t.present → u.high ≡ t.high → u.composite ≡ t.composite
    → ((u.present ≡ s.present) × (u.high ≡ s.high)) ⊎ (counter_of u.high ≢ 0) ⊎ (AreAheadOf b (counter_of s.present) × HasComposite u)
carried b s t u moves phase present high composite = elim (moves phase) [
  | inl same ↦ inl (present ∙ same.0, high ∙ same.1)
  | inr (inl high_up) ↦ inr (inl (λ zero. high_up (sym (ap counter_of high) ∙ zero)))
  | inr (inr ahead) ↦ inr (inr (ahead.0, λ z e. subst (λ (o : Option Ballot). IsSomeAnd o (λ x. x.value ≡ z)) (sym present) (ahead.1 z (sym composite ∙ e))))
]

module _ (b c : Seen) (s t u : State) (ahead : (n : ℕ) → AreAheadOf c n → AreAheadOf b n) (moves : Moves b s t) where
  confirmed_moves : t.phase ≡ Prepare → ConfirmsPrepared c t u → ((u.present ≡ s.present) × (u.high ≡ s.high)) ⊎ (counter_of u.high ≢ 0) ⊎ (AreAheadOf b (counter_of s.present) × HasComposite u)
  confirmed_moves phase step = elim step.confirmed [
    | inl stale ↦ carried b s t u moves phase stale.1 stale.2 (ap (λ (x : State). x.composite) step.frame)
    | inr fresh ↦
        let x = some_of (λ x. (x.counter ≢ 0) × Confirmed c (Prepared x) × IsAbove x t.confirmed × Joins x t u) u.confirmed fresh in
        elim x.2.3 [
          | inl raised ↦ inr (inl (λ zero. x.2.0 (sym (ap counter_of raised.2) ∙ zero)))
          | inr (inl joined) ↦ inr (inl (λ zero. x.2.0 (sym (ap counter_of joined.2) ∙ zero)))
          | inr (inr apart) ↦ carried b s t u moves phase apart.1 apart.2 (ap (λ (y : State). y.composite) step.frame)
        ]
  ]

  caught_moves : IsPreparing t → t.phase ≡ Prepare → CatchesUp c t u → ((u.present ≡ s.present) × (u.high ≡ s.high)) ⊎ (counter_of u.high ≢ 0) ⊎ (AreAheadOf b (counter_of s.present) × HasComposite u)
  caught_moves ready phase step = elim (raised_moves t u ready step.raises) [
    | inl high ↦ inr (inl high)
    | inr free ↦ elim (moves phase) [
      | inl same ↦ inr (inr (subst (λ (o : Option Ballot). AreAheadOf b (counter_of o)) same.0 (ahead (counter_of t.present) step.ahead), free.2))
      | inr (inl high) ↦ inr (inl (λ zero. high (sym (ap counter_of free.1) ∙ zero)))
      | inr (inr before) ↦ inr (inr (before.0, free.2))
    ]
  ]

  pub moves_more : IsReady t → IsStep c t u → Moves b s u
  moves_more ready (inl (phase, inl step)) at = carried b s t u moves phase (ap (λ (x : State). x.present) step.frame) (ap (λ (x : State). x.high) step.frame) (ap (λ (x : State). x.composite) step.frame)
  moves_more ready (inl (phase, inr (inl step))) at = confirmed_moves phase step
  moves_more ready (inl (phase, inr (inr (inl step)))) at = absurd (phases_apart u.phase at step.phase)
  moves_more ready (inl (phase, inr (inr (inr step)))) at = caught_moves (subst (λ ph. IsReadyIn ph t) phase ready) phase step
  moves_more ready (inr (phase, rule)) at = absurd (omega (arith, later, ap place phase, ap place at))
    where
      later : place t.phase ≤ place u.phase
      later = elim (step_rises c t u (inr (phase, rule))) [ inl up ↦ omega (arith, up) | inr same ↦ omega (arith, ap place same.0) ]
