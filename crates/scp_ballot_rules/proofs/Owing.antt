-- Where no rule changes a ready state, nothing is owed.
use Rattle.std.proofs.Common.{◌≡◌, ◌≢◌, ◌<◌, ◌≤◌, true, false, ℕ, List, Option, Some, None, IsSome, IsSomeAnd, refl, sym, ◌∙◌, ap, subst, ◌⊎◌, inl, inr, arith}
use Rattle.std.specs.Option.{ForSome}
use Rattle.scp_vote.specs.scp_types.specs.declared.ballot.Ballot.{Ballot}
use Rattle.scp_vote.specs.scp_types.specs.declared.names.Hash.{Hash}
use Rattle.scp_vote.specs.scp_envelope.specs.Ballots.{IsLess}
use Rattle.scp_vote.specs.scp_envelope.specs.declared.statement.Pledges.{Pledges}
use Rattle.scp_vote.specs.scp_envelope.specs.declared.statement.Pledges.TheVariants.{Prepare as Preparing, Confirm as Confirming, Externalize as Externalizing}
use Rattle.scp_vote.specs.declared.claim.Claim.TheVariants.{Prepared, Committed}
use Rattle.scp_vote.specs.Board.{Seen, Accepted, Confirmed}
use Rattle.scp_ballot_rules.specs.declared.state.State.{State}
use Rattle.scp_ballot_rules.specs.declared.state.Phase.{Phase}
use Rattle.scp_ballot_rules.specs.declared.state.Phase.TheVariants.{Prepare, Confirm, Externalize}
use Rattle.scp_ballot_rules.specs.Order.{AtMost, IsOver, IsAbove}
use Rattle.scp_ballot_rules.specs.Own.{counter_of, or_zero, prepare_of, confirm_of, own_in, own_of, IsBlank, StandsFor}
use Rattle.scp_ballot_rules.specs.Ready.{HasValue, IsLowUnder, NoneOver, IsPreparing, IsConfirming, IsReadyIn, IsReady}
use Rattle.scp_ballot_rules.specs.Owed.{Names, IsCandidate, IsBoundary, AreAheadOf, IsPrepareSettled, IsConfirmSettled, IsSettled, nothing_said, own_or_nothing, OwesNothing}
use Rattle.scp_ballot_rules.specs.inside.Rests.{RestsInPrepare, RestsInConfirm, RestsIn, Rests}
use Rattle.scp_ballot_rules.proofs.Options.{some_of, some_and, at_some, none_some, some_or_none, has_some}
use Rattle.scp_ballot_rules.proofs.Order.{less_turn, less_irrefl}
use Rattle.scp_ballot_rules.proofs.FollowingMore.{present_value}

both_at_most : (x y : Ballot) → AtMost x y → AtMost y x → y ≡ x
both_at_most x y (inl e) k = sym e
both_at_most x y (inr l) (inl e) = e
both_at_most x y (inr l) (inr k) = absurd (less_turn x y l k)

or_zero_counter : (o : Option Ballot) → (or_zero o).counter ≡ counter_of o
or_zero_counter None = refl
or_zero_counter (Some x) = refl

module _ (b : Seen) (hash : Hash) (s : State) where
  pub prepare_settled : b.statement b.me ≡ Some (Preparing (prepare_of hash s)) → IsPreparing s → RestsInPrepare b s → IsPrepareSettled b (prepare_of hash s)
  prepare_settled is ready rests = record {
    prepared = rests.accepts;
    commit = rests.commits;
    confirmed = λ counted confirmed. elim (some_or_none s.present) [
      | inl p ↦
          let here : or_zero s.present ≡ p.0 = ap or_zero p.1 in
          let C : Ballot → Type 0 = λ x. Confirmed b (Prepared x) in
          let candidate : IsCandidate b p.0 = record {
            node = b.me;
            named = some_and (λ q. Names q p.0) (b.statement b.me) (Preparing (prepare_of hash s)) is (inl here);
            counted = λ zero. counted (ap (λ (x : Ballot). x.counter) here ∙ zero);
          } in
          let w = some_of (λ w. AtMost p.0 w) s.confirmed (rests.confirms p.0 candidate (subst C here confirmed)) in
          let same : w.0 ≡ p.0 = both_at_most p.0 w.0 w.2 (at_some (λ p. AtMost w.0 p) s.present p.0 p.1 (ready.confirmed w.0 w.1).0) in
          let high : s.high ≡ Some p.0 = ready.settled w.0 w.1 p.0 p.1 (ap (λ (x : Ballot). x.value) same) ∙ ap Some same in
          let O : Ballot → Type 0 = λ x. IsOver s.prepared x ⊎ IsOver s.prime x in (
            ap counter_of high ∙ ap (λ (x : Ballot). x.counter) (sym here),
            elim (some_or_none s.low) [
              | inl c ↦
                  let h = some_of (λ h. IsLowUnder c.0 h × NoneOver s h) s.high (ready.low c.0 c.1) in
                  inl (λ zero. h.2.0.0 (ap counter_of (sym c.1) ∙ zero))
              | inr none ↦ inr (subst O (sym here) (ready.vote p.0 high p.1 none))
            ],
          )
      | inr none ↦ absurd (counted (ap (λ o. (or_zero o).counter) none))
    ];
    counter = λ there ahead. rests.raises (let P : ℕ → Type 0 = λ n. AreAheadOf b n in subst P (or_zero_counter s.present) ahead) (inr (inr there));
  }

  pub confirm_settled : IsConfirming s → RestsInConfirm b s → IsConfirmSettled b (confirm_of hash s)
  confirm_settled ready rests =
      let c = some_of (λ c. IsSomeAnd s.high (λ h. IsLowUnder c h × IsSomeAnd s.present (λ b. (h.value ≡ b.value) × (h.counter ≤ b.counter)))) s.low ready.range in
      let value : c.0.value ≡ (or_zero s.present).value = present_value s ready c.0 c.1 in
      let P : List ℕ → Type 0 = λ v. (n : ℕ) → IsBoundary b v n → ¬ (Confirmed b (Committed n n v)) in
      let Q : List ℕ → Type 0 = λ v. (n : ℕ) → IsBoundary b v n → counter_of s.high < n → ¬ (Accepted b (Committed n n v)) in
      let R : ℕ → Type 0 = λ n. AreAheadOf b n in
      record {
        confirmed = subst P value (rests.confirms c.0 c.1);
        accepted = subst Q value (rests.commits c.0 c.1);
        counter = λ ahead. rests.raises (subst R (or_zero_counter s.present) ahead);
      }

blank_settled : (b : Seen) (hash : Hash) (s : State) → b.statement b.me ≡ None → IsBlank s → RestsInPrepare b s → IsSettled b (nothing_said hash)
blank_settled b hash s is blank rests =
    let P : Option Ballot → Type 0 = λ o. (x : Ballot) → IsCandidate b x → Accepted b (Prepared x) → ¬ (IsAbove x o) in
    record {
      prepared = subst P blank.prepared rests.accepts;
      commit = rests.commits;
      confirmed = λ counted confirmed. absurd (counted refl);
      counter = λ there ahead. (let k : false ≡ true = there in cc);
    }

-- Where no rule changes a ready state, nothing is owed.
pub owes_nothing : (b : Seen) (hash : Hash) (s : State) → StandsFor (b.statement b.me) hash s → IsReady s → Rests b s → OwesNothing hash b
owes_nothing b hash s stands ready rests = elim stands [
  | inl e ↦ (let P : Option Pledges → Type 0 = λ o. IsSettled b (own_or_nothing hash o) in subst P (sym e) (by_phase s.phase e ready rests))
  | inr none ↦ (let P : Option Pledges → Type 0 = λ o. IsSettled b (own_or_nothing hash o) in
      subst P (sym none.0) (blank_settled b hash s none.0 none.1 (subst (λ ph. RestsIn ph b s) none.1.phase rests)))
]
  where
    by_phase : (ph : Phase) → b.statement b.me ≡ Some (own_in ph hash s) → IsReadyIn ph s → RestsIn ph b s → IsSettled b (own_in ph hash s)
    by_phase Prepare e r t = prepare_settled b hash s e r t
    by_phase Confirm e r t = confirm_settled b hash s r t
    by_phase Externalize e r t = tt
