-- Links in the phase Confirm, and of each rule.
use Rattle.std.proofs.Common.{◌≡◌, ◌≢◌, ◌≤◌, ◌<◌, ℕ, List, Option, Some, None, IsSomeAnd, refl, sym, ◌∙◌, ap, subst, ◌⊎◌, inl, inr, arith}
use Rattle.std.specs.Option.{ForSome}
use Rattle.scp_vote.specs.scp_types.specs.declared.ballot.Ballot.{Ballot}
use Rattle.scp_vote.specs.scp_types.specs.declared.names.Hash.{Hash}
use Rattle.scp_vote.specs.scp_envelope.specs.declared.statement.Pledges.{Pledges}
use Rattle.scp_vote.specs.scp_envelope.specs.declared.statement.Pledges.TheVariants.{Prepare as Preparing, Confirm as Confirming, Externalize as Externalizing}
use Rattle.scp_vote.specs.scp_envelope.specs.Claims.{AcceptsPrepare, AcceptsCommit as AcceptsOne}
use Rattle.scp_vote.specs.declared.claim.Claim.TheVariants.{Prepared, Committed}
use Rattle.scp_vote.specs.Claims.{AcceptsCommits}
use Rattle.scp_vote.specs.Board.{Seen, Accepted, Confirmed}
use Rattle.scp_vote.specs.Licence.{Follows}
use Rattle.scp_ballot_rules.specs.declared.state.State.{State}
use Rattle.scp_ballot_rules.specs.declared.state.Phase.{Phase}
use Rattle.scp_ballot_rules.specs.declared.state.Phase.TheVariants.{Prepare, Confirm, Externalize}
use Rattle.scp_ballot_rules.specs.Order.{IsAbove}
use Rattle.scp_ballot_rules.specs.Own.{counter_of, or_zero, confirm_of, own_in, own_of, StandsFor}
use Rattle.scp_ballot_rules.specs.Ready.{IsLowUnder, IsPreparing, IsConfirming, IsReadyIn, IsReady}
use Rattle.scp_ballot_rules.specs.Rules.{IsHeld, AcceptsPrepared, ConfirmsPrepared, ConfirmsCommit, AcceptsMore, AcceptsCommit, Grows}
use Rattle.scp_ballot_rules.specs.inside.Rules.{Raises, CatchesUp, RaisesMore, IsStep}
use Rattle.scp_ballot_rules.proofs.Options.{some_of, some_and, at_some, none_some, some_same, some_or_none}
use Rattle.scp_ballot_rules.proofs.Accepting.{accepting_keeps}
use Rattle.scp_ballot_rules.proofs.Confirming.{confirming_keeps}
use Rattle.scp_ballot_rules.proofs.Raising.{raising_keeps, raising_more_keeps}
use Rattle.scp_ballot_rules.proofs.Committing.{committing_keeps, externalizing_keeps, accepting_more_keeps}
use Rattle.scp_ballot_rules.proofs.Following.{at_prepare, at_confirm, same_ballot, confirmed_covered, accepting_follows, confirming_follows, raising_follows, held_first, commit_follows, externalize_follows}

abbrev IsRange : State → Ballot → Type 0
IsRange s c = IsSomeAnd s.high (λ h. IsLowUnder c h × IsSomeAnd s.present (λ b. (h.value ≡ b.value) × (h.counter ≤ b.counter)))

-- the present ballot has the value of the low end
pub present_value : (s : State) → IsConfirming s → (c : Ballot) → s.low ≡ Some c → c.value ≡ (or_zero s.present).value
present_value s ready c e =
    let range = at_some (IsRange s) s.low c e ready.range in
    let h = some_of (λ h. IsLowUnder c h × IsSomeAnd s.present (λ b. (h.value ≡ b.value) × (h.counter ≤ b.counter))) s.high range in
    let p = some_of (λ b. (h.0.value ≡ b.value) × (h.0.counter ≤ b.counter)) s.present h.2.1 in
    h.2.0.1 ∙ p.2.0 ∙ ap (λ o. (or_zero o).value) (sym p.1)

module _ (b : Seen) (hash : Hash) (own : Option Pledges) (old : State) (ready : IsConfirming old) (stands : own ≡ Some (Confirming (confirm_of hash old))) where
  held_value : (x : Ballot) → old.prepared ≡ Some x → x.value ≡ (or_zero old.present).value
  held_value x e = let c = some_of (λ c. x.value ≡ c.value) old.low (ready.prepared x e) in c.2 ∙ present_value old ready c.0 c.1

  held_later : (x : Ballot) → IsHeld old x → IsSomeAnd own (λ p. AcceptsPrepare p x)
  held_later x (inl e) = some_and (λ p. AcceptsPrepare p x) own _ stands (held_value x e, omega (arith, ap counter_of e))
  held_later x (inr e) = none_some old.prime x ready.prime e

  -- the range is kept, and what is named was held or is Accepted
  module _ (next : State) (next_ready : IsConfirming next) (phase : next.phase ≡ Confirm) (low : next.low ≡ old.low) (high : next.high ≡ old.high)
      (named : (x : Ballot) → next.prepared ≡ Some x → IsHeld old x ⊎ Accepted b (Prepared x)) where
    pub confirm_follows : Follows b own (own_of hash next)
    confirm_follows =
        let P : Phase → Type 0 = λ ph. Follows b own (own_in ph hash next) in
        let c = some_of (IsRange next) next.low next_ready.range in
        let value : (or_zero next.present).value ≡ (or_zero old.present).value = sym (present_value next next_ready c.0 c.1) ∙ present_value old ready c.0 (sym low ∙ c.1) in
        let here : Follows b own (own_in Confirm hash next) = record {
          values = λ v k. absurd k;
          prepared = λ x names. elim (some_or_none next.prepared) [
            | inl y ↦
                let d = some_of (λ c. y.0.value ≡ c.value) next.low (next_ready.prepared y.0 y.1) in
                let same : y.0 ≡ x =
                same_ballot y.0.counter (counter_of next.prepared) y.0.value (or_zero next.present).value (ap counter_of (sym y.1)) (d.2 ∙ present_value next next_ready d.0 d.1) ∙ sym names.1 in
                let Q : Ballot → Type 0 = λ x. IsSomeAnd own (λ p. AcceptsPrepare p x) ⊎ Accepted b (Prepared x) in
                subst Q same (elim (named y.0 y.1) [ inl held ↦ inl (held_later y.0 held) | inr accepted ↦ inr accepted ])
            | inr none ↦ absurd (names.0 (ap counter_of none))
          ];
          votes = tt;
          accepts = inl (some_and (λ p. AcceptsCommits p (counter_of next.low) (counter_of next.high) (or_zero next.present).value) own _ stands
              (λ n from to. (value, omega (arith, from, ap counter_of low), omega (arith, to, ap counter_of high))));
          externalizes = tt;
        } in
        subst P (sym phase) here

module _ (b : Seen) (hash : Hash) (own : Option Pledges) (old next : State) (is : b.statement b.me ≡ own) (stands : StandsFor own hash old) where
  -- a raised counter, by the rule or by a timer
  pub raised_link : IsPreparing old → old.phase ≡ Prepare → Raises old next → IsReady next × Follows b own (own_of hash next)
  raised_link ready phase step =
      (subst (λ ph. IsReadyIn ph next) (sym (ap (λ (s : State). s.phase) step.frame ∙ phase)) (raising_keeps old next ready step), raising_follows b hash own old next is ready phase stands step)

  first_link : IsPreparing old → old.phase ≡ Prepare → AcceptsPrepared b old next ⊎ ConfirmsPrepared b old next ⊎ AcceptsCommit b old next ⊎ CatchesUp b old next
      → IsReady next × Follows b own (own_of hash next)
  first_link ready phase (inl step) =
      (subst (λ ph. IsReadyIn ph next) (sym (ap (λ (s : State). s.phase) step.frame ∙ phase)) (accepting_keeps b old next ready step), accepting_follows b hash own old next is ready phase stands step)
  first_link ready phase (inr (inl step)) = (
    subst (λ ph. IsReadyIn ph next) (sym (ap (λ (s : State). s.phase) step.frame ∙ phase)) (confirming_keeps b old next ready step (confirmed_covered hash own old (at_prepare own hash old phase stands) b is)),
    confirming_follows b hash own old next is ready phase stands step,
  )
  first_link ready phase (inr (inr (inl step))) =
      (subst (λ ph. IsReadyIn ph next) (sym step.phase) (committing_keeps b old next step), commit_follows b hash own old next (held_first b hash own old next is ready phase stands) step)
  first_link ready phase (inr (inr (inr step))) = raised_link ready phase step.raises

  later_link : IsConfirming old → old.phase ≡ Confirm → AcceptsMore b old next ⊎ (AcceptsCommit b old next × Grows old next) ⊎ ConfirmsCommit b old next ⊎ RaisesMore old next
      → IsReady next × Follows b own (own_of hash next)
  later_link ready phase (inl step) =
      let kept = accepting_more_keeps b old next ready step in
      let same = ap (λ (s : State). s.phase) step.frame ∙ phase in (
        subst (λ ph. IsReadyIn ph next) (sym same) kept,
        confirm_follows b hash own old ready (at_confirm own hash old phase stands) next kept same (ap (λ (s : State). s.low) step.frame) (ap (λ (s : State). s.high) step.frame)
            (λ x e. inr (at_some (λ x. Accepted b (Prepared x) × IsAbove x old.prepared × IsSomeAnd old.low (λ c. x.value ≡ c.value) × (x.counter ≢ 0)) next.prepared x e step.prepared).0),
      )
  later_link ready phase (inr (inl step)) =
      (subst (λ ph. IsReadyIn ph next) (sym step.0.phase) (committing_keeps b old next step.0), commit_follows b hash own old next (held_later b hash own old ready (at_confirm own hash old phase stands)) step.0)
  later_link ready phase (inr (inr (inl step))) =
      (subst (λ ph. IsReadyIn ph next) (sym step.phase) (externalizing_keeps b old next step), externalize_follows b hash own old next step)
  later_link ready phase (inr (inr (inr step))) =
      let kept = raising_more_keeps old next ready step in
      let same = ap (λ (s : State). s.phase) step.frame ∙ phase in (
        subst (λ ph. IsReadyIn ph next) (sym same) kept,
        confirm_follows b hash own old ready (at_confirm own hash old phase stands) next kept same (ap (λ (s : State). s.low) step.frame) (ap (λ (s : State). s.high) step.frame)
            (λ x e. inl (inl (sym (ap (λ (s : State). s.prepared) step.frame) ∙ e))),
      )

  -- Each rule keeps the state ready, and gives one link.
  pub step_keeps : IsReady old → IsStep b old next → IsReady next × Follows b own (own_of hash next)
  step_keeps ready (inl (phase, rule)) = first_link (subst (λ ph. IsReadyIn ph old) phase ready) phase rule
  step_keeps ready (inr (phase, rule)) = later_link (subst (λ ph. IsReadyIn ph old) phase ready) phase rule
