-- If no rule of the protocol changes the state, nothing is owed.
use Rattle.std.proofs.Common.{◌≡◌, ◌≢◌, ◌≤◌, ◌<◌, ℕ, None, IsSomeAnd, refl, sym, ◌∙◌, ap, subst, inl, inr, arith}
use Rattle.std.specs.Option.{option_map}
use Rattle.scp_vote.specs.scp_types.specs.declared.ballot.Ballot.{Ballot}
use Rattle.scp_vote.specs.scp_envelope.specs.Ballots.{IsLess}
use Rattle.scp_vote.specs.Board.{Seen}
use Rattle.scp_ballot_rules.specs.declared.state.State.{State}
use Rattle.scp_ballot_rules.specs.declared.state.Phase.{Phase}
use Rattle.scp_ballot_rules.specs.declared.state.Phase.TheVariants.{Prepare, Confirm, Externalize}
use Rattle.scp_ballot_rules.specs.Order.{AtMost}
use Rattle.scp_ballot_rules.specs.Own.{counter_of}
use Rattle.scp_ballot_rules.specs.Ready.{IsLowUnder, IsConfirming, IsReadyIn, IsReady}
use Rattle.scp_ballot_rules.specs.Owed.{counter_in, AreAheadOf}
use Rattle.scp_ballot_rules.specs.Rests.{AcceptsNoMore, ConfirmsNoMore, CommitsNone, CommitsNoHigher, ConfirmsNone}
use Rattle.scp_ballot_rules.specs.inside.Rests.{RestsInPrepare, RestsInConfirm, RestsIn, Rests}
use Rattle.scp_ballot_rules.specs.AcceptPrepared.{AcceptsInPrepare, AcceptPrepared}
use Rattle.scp_ballot_rules.specs.ConfirmPrepared.{ConfirmsInPrepare, ConfirmPrepared}
use Rattle.scp_ballot_rules.specs.AcceptCommit.{AcceptCommit}
use Rattle.scp_ballot_rules.specs.ConfirmCommit.{ConfirmCommit}
use Rattle.scp_ballot_rules.specs.RaiseCounter.{value_to_raise, RaiseCounter}
use Rattle.scp_ballot_rules.specs.Steps.{OrElse, Step}
use Rattle.scp_ballot_rules.proofs.Options.{some_of, some_and, some_same, some_or_none, none_some}
use Rattle.scp_ballot_rules.proofs.Order.{less_irrefl, less_turn, either_way}
use Rattle.scp_ballot_rules.proofs.Raised.{no_value}

module _ (b : Seen) (s : State) where
  accepts_no_more : AcceptsInPrepare b s s → AcceptsNoMore b s
  accepts_no_more h x candidate accepted above =
      let y = some_of (λ y. AtMost x y) s.prepared (h.prepared.greatest x (inl (candidate, accepted))) in
      let less : IsLess y.0 x = above y.0 y.1 in
      elim y.2 [ inl same ↦ less_irrefl x (subst (λ w. IsLess w x) (sym same) less) | inr turned ↦ less_turn x y.0 turned less ]

  -- none of these is above what is confirmed
  confirms_no_more : ConfirmsInPrepare b s s → ConfirmsNoMore b s
  confirms_no_more h x candidate confirmed = elim h.joined [
    | inl (y, greatest, above, enters) ↦ absurd (less_irrefl y (above y enters.confirmed))
    | inr none ↦ elim (some_or_none s.confirmed) [
      | inr e ↦ absurd (none.0 x (candidate, confirmed) (λ w f. none_some s.confirmed w e f))
      | inl (w, e) ↦ elim (either_way x w) [
        | inl most ↦ some_and (λ w. AtMost x w) s.confirmed w e most
        | inr less ↦ absurd (none.0 x (candidate, confirmed) (λ z f. subst (λ w. IsLess w x) (some_same s.confirmed w z e f) less))
      ]
    ]
  ]

  in_confirm : s.phase ≡ Prepare → s.phase ≡ Confirm → ⊥
  in_confirm e f = let k : Prepare ≡ Confirm = sym e ∙ f in cc

  commits_none : s.phase ≡ Prepare → AcceptCommit Prepare b s s → CommitsNone b
  commits_none phase (inl (v, lo, hi, h)) = absurd (in_confirm phase (ap (λ (x : State). x.phase) h.takes.frame))
  commits_none phase (inr (none, _)) = λ v n bound accepted. let some : n ≢ 0 = bound.counted in none v n bound (omega (arith, some)) accepted

  -- the others are ahead of a lower counter, too
  ahead_below : (m n : ℕ) → m ≤ n → AreAheadOf b n → AreAheadOf b m
  ahead_below m n le ahead = record {
    nodes = ahead.nodes;
    others = λ v is.
        let h = ahead.others v is in
        let p = some_of (λ p. n < counter_in p) (b.statement v) h.1 in
        (h.0, some_and (λ p. m < counter_in p) (b.statement v) p.0 p.1 (omega (arith, le, p.2)));
    block = ahead.block;
  }

  no_value_then : RaiseCounter b s s → AreAheadOf b (counter_of s.present) → value_to_raise s.phase s ≡ None
  no_value_then (inl (_, (n, least, inl (v, value, up, h)))) ahead =
      let same : counter_of s.present ≡ n = ap (λ (x : State). counter_of x.present) h.frame in absurd (omega (arith, up, same))
  no_value_then (inl (_, (n, least, inr (inl none, _)))) ahead = none
  no_value_then (inl (_, (n, least, inr (inr le, _)))) ahead = absurd (least.free (ahead_below n (counter_of s.present) le ahead))
  no_value_then (inr (idle, _)) ahead = idle ahead

  abbrev AllRest : Phase → Type 0
  AllRest p = AcceptPrepared p b s s × ConfirmPrepared p b s s × AcceptCommit p b s s × ConfirmCommit p b s s × RaiseCounter b s s

  abbrev StepAt : Phase → Type 0
  StepAt p = OrElse (AcceptPrepared p b) (OrElse (ConfirmPrepared p b) (OrElse (AcceptCommit p b) (OrElse (ConfirmCommit p b) (RaiseCounter b)))) s s

  all_rest : (p : Phase) → StepAt p → AllRest p
  all_rest p (inl (_, differs)) = absurd (differs refl)
  all_rest p (inr (_, inl (_, differs))) = absurd (differs refl)
  all_rest p (inr (_, inr (_, inl (_, differs)))) = absurd (differs refl)
  all_rest p (inr (_, inr (_, inr (_, inl (_, differs))))) = absurd (differs refl)
  all_rest p (inr (accept, inr (confirm, inr (commit, inr (end, raise))))) = (accept, confirm, commit, end, raise)

  prepare_rests : s.phase ≡ Prepare → AllRest Prepare → RestsInPrepare b s
  prepare_rests phase (accept, confirm, commit, end, raise) = record {
    accepts = accepts_no_more accept;
    confirms = confirms_no_more confirm;
    commits = commits_none phase commit;
    raises = λ ahead. no_value s (subst (λ p. value_to_raise p s ≡ None) phase (no_value_then raise ahead));
  }

  commits_no_higher : AcceptCommit Confirm b s s → CommitsNoHigher b s
  commits_no_higher (inl (v, lo, hi, h)) = absurd (let above : counter_of s.high < hi = h.above in let same : counter_of s.high ≡ hi = ap (λ (x : State). counter_of x.high) h.takes.frame in omega (arith, above, same))
  commits_no_higher (inr (none, _)) = λ c e n bound up accepted. none c.value (some_and (λ x. x.value ≡ c.value) s.low c e refl) n bound up accepted

  confirms_none : s.phase ≡ Confirm → ConfirmCommit Confirm b s s → ConfirmsNone b s
  confirms_none phase (inl (v, lo, hi, h)) = absurd (let k : Confirm ≡ Externalize = sym phase ∙ ap (λ (x : State). x.phase) h.takes in cc)
  confirms_none phase (inr (none, _)) =
      λ c e n bound confirmed. let some : n ≢ 0 = bound.counted in none c.value (some_and (λ x. x.value ≡ c.value) s.low c e refl) n bound (omega (arith, some)) confirmed

  confirm_rests : s.phase ≡ Confirm → IsConfirming s → AllRest Confirm → RestsInConfirm b s
  confirm_rests phase ready (accept, confirm, commit, end, raise) = record {
    commits = commits_no_higher commit;
    confirms = confirms_none phase end;
    raises = λ ahead.
        let none : option_map (λ (c : Ballot). c.value) s.low ≡ None = subst (λ p. value_to_raise p s ≡ None) phase (no_value_then raise ahead) in
        let c = some_of (λ c. IsSomeAnd s.high (λ h. IsLowUnder c h × IsSomeAnd s.present (λ b. (h.value ≡ b.value) × (h.counter ≤ b.counter)))) s.low ready.range in
        none_some (option_map (λ (c : Ballot). c.value) s.low) c.0.value none (ap (option_map (λ (c : Ballot). c.value)) c.1);
  }

  -- a ready state that the first rule leaves rests
  pub step_rests : IsReady s → Step b s s → Rests b s
  step_rests ready h = by s.phase refl
    where
      by : (p : Phase) → s.phase ≡ p → Rests b s
      by Prepare e = subst (λ p. RestsIn p b s) (sym e) (prepare_rests e (all_rest Prepare (subst StepAt e h)))
      by Confirm e = subst (λ p. RestsIn p b s) (sym e) (confirm_rests e (subst (λ p. IsReadyIn p s) e ready) (all_rest Confirm (subst StepAt e h)))
      by Externalize e = subst (λ p. RestsIn p b s) (sym e) tt
