-- The statement of the next state may follow the one of the old state.
use Rattle.std.proofs.Common.{◌≡◌, ◌≢◌, ◌≤◌, ◌<◌, ℕ, List, Option, Some, None, IsSomeAnd, refl, sym, ◌∙◌, ap, subst, ◌⊎◌, inl, inr, arith}
use Rattle.std.specs.Option.{ForSome}
use Rattle.scp_vote.specs.scp_types.specs.declared.ballot.Ballot.{Ballot}
use Rattle.scp_vote.specs.scp_types.specs.declared.names.Hash.{Hash}
use Rattle.scp_vote.specs.scp_envelope.specs.declared.statement.Pledges.{Pledges}
use Rattle.scp_vote.specs.scp_envelope.specs.declared.statement.Pledges.TheVariants.{Prepare as Preparing, Confirm as Confirming, Externalize as Externalizing}
use Rattle.scp_vote.specs.scp_envelope.specs.Ballots.{IsLess}
use Rattle.scp_vote.specs.scp_envelope.specs.Claims.{IsCovered, AcceptsPrepare}
use Rattle.scp_vote.specs.declared.claim.Claim.{Claim}
use Rattle.scp_vote.specs.declared.claim.Claim.TheVariants.{Prepared, Committed}
use Rattle.scp_vote.specs.Board.{Seen, Accepted, Confirmed}
use Rattle.scp_vote.specs.Licence.{Follows, KeepsVote, high_end}
use Rattle.scp_ballot_rules.specs.declared.state.State.{State}
use Rattle.scp_ballot_rules.specs.declared.state.Phase.{Phase}
use Rattle.scp_ballot_rules.specs.declared.state.Phase.TheVariants.{Prepare, Confirm, Externalize}
use Rattle.scp_ballot_rules.specs.Order.{AtMost, FitsUnder, IsOver, IsAbove}
use Rattle.scp_ballot_rules.specs.Own.{counter_of, or_zero, prepare_of, confirm_of, externalize_of, own_in, own_of, IsBlank, StandsFor}
use Rattle.scp_ballot_rules.specs.Ready.{HasValue, IsLowUnder, NoneOver, IsPreparing, IsConfirming, IsReadyIn, IsReady}
use Rattle.scp_ballot_rules.specs.Rules.{IsHeld, AcceptsPrepared, AcceptsMore, Joins, LowAfter, ConfirmsPrepared, AcceptsCommit, ConfirmsCommit, Grows}
use Rattle.scp_ballot_rules.specs.inside.Rules.{Raises, RaisesMore, Composes, IsStep}
use Rattle.scp_ballot_rules.proofs.Options.{some_of, some_and, at_some, none_some, some_same, some_or_none, same_some_and}
use Rattle.scp_ballot_rules.proofs.Order.{at_most_trans, at_most_counter, at_most_apart, values_decided, covered}
use Rattle.scp_ballot_rules.proofs.Accepting.{accepting_keeps}
use Rattle.scp_ballot_rules.proofs.Confirming.{IsCoveredBy, VotesNow, no_stale_vote, confirming_keeps, new_vote_is_confirmed}
use Rattle.scp_ballot_rules.proofs.Raising.{raising_keeps, composing_keeps, raising_more_keeps}
use Rattle.scp_ballot_rules.proofs.Committing.{committing_keeps, externalizing_keeps, accepting_more_keeps}

abbrev ballot : ℕ → List ℕ → Ballot
ballot n v = record { counter = n; value = v }

pub same_ballot : (n m : ℕ) (v w : List ℕ) → n ≡ m → v ≡ w → ballot n v ≡ ballot m w
same_ballot n m v w e f = ap (λ k. ballot k v) e ∙ ap (λ u. ballot m u) f

-- the vote of the next state is that of the old one
pub record KeepsVoteOf (old next : State) : Type 0 where
  pub low : next.low ≡ old.low
  pub high : next.high ≡ old.high
  pub present : IsSomeAnd old.present (λ b. IsSomeAnd next.present (λ p. b.value ≡ p.value))

pub at_prepare : (own : Option Pledges) (hash : Hash) (s : State) → s.phase ≡ Prepare → StandsFor own hash s → (own ≡ Some (Preparing (prepare_of hash s))) ⊎ ((own ≡ None) × IsBlank s)
at_prepare own hash s phase (inl e) = inl (e ∙ ap (λ ph. Some (own_in ph hash s)) phase)
at_prepare own hash s phase (inr none) = inr none

pub at_confirm : (own : Option Pledges) (hash : Hash) (s : State) → s.phase ≡ Confirm → StandsFor own hash s → own ≡ Some (Confirming (confirm_of hash s))
at_confirm own hash s phase (inl e) = e ∙ ap (λ ph. Some (own_in ph hash s)) phase
at_confirm own hash s phase (inr none) = absurd (let k : Prepare ≡ Confirm = sym none.1.phase ∙ phase in cc)

module _ (hash : Hash) (own : Option Pledges) (old : State) (stands : (own ≡ Some (Preparing (prepare_of hash old))) ⊎ ((own ≡ None) × IsBlank old)) where
  held_accepted : (x : Ballot) → IsHeld old x → IsSomeAnd own (λ p. AcceptsPrepare p x)
  held_accepted x held = elim stands [
    | inl e ↦ some_and (λ p. AcceptsPrepare p x) own _ e (elim held [
      | inl f ↦ inl (some_and (λ top. IsCovered x top) old.prepared x f (covered x x (omega arith) refl))
      | inr f ↦ inr (some_and (λ top. IsCovered x top) old.prime x f (covered x x (omega arith) refl))
    ])
    | inr none ↦ elim held [ inl f ↦ none_some old.prepared x none.1.prepared f | inr f ↦ none_some old.prime x none.1.prime f ]
  ]

  pub confirmed_covered : (b : Seen) → b.statement b.me ≡ own → (x : Ballot) → Confirmed b (Prepared x) → IsCoveredBy old x
  confirmed_covered b is x confirmed =
      let mine : IsSomeAnd own (λ p. AcceptsPrepare p x) = same_some_and (λ p. AcceptsPrepare p x) (b.statement b.me) own is (confirmed.2 b.me confirmed.1.has) in
      elim stands [
        | inl e ↦ at_some (λ p. AcceptsPrepare p x) own (Preparing (prepare_of hash old)) e mine
        | inr none ↦ (let p = some_of (λ p. AcceptsPrepare p x) own mine in none_some own p.0 none.0 p.1)
      ]

  module _ (b : Seen) (next : State) (ready : IsPreparing next) (phase : next.phase ≡ Prepare)
      (named : (x : Ballot) → IsHeld next x → IsHeld old x ⊎ Accepted b (Prepared x))
      (vote : ForSome next.low (λ c. ForSome next.high (λ h. Confirmed b (Prepared h) ⊎ KeepsVoteOf old next))) where
    kept_vote : (c : Ballot) → next.low ≡ Some c → c.counter ≢ 0 → KeepsVoteOf old next → KeepsVote own (prepare_of hash next)
    kept_vote c e counted k = elim stands [
      | inl s ↦ (let P : Option Pledges → Type 0 = λ o. KeepsVote o (prepare_of hash next) in
          let p = some_of (λ b. IsSomeAnd next.present (λ p. b.value ≡ p.value)) old.present k.present in
          let q = some_of (λ q. p.0.value ≡ q.value) next.present p.2 in
          subst P (sym s) (
            λ zero. counted (ap counter_of (sym e ∙ k.low) ∙ zero),
            ap counter_of (sym k.high),
            ap (λ o. (or_zero o).value) p.1 ∙ q.2 ∙ ap (λ o. (or_zero o).value) (sym q.1),
          ))
      | inr none ↦ none_some next.low c (k.low ∙ none.1.low) e
    ]

    votes_well : (c : Ballot) → next.low ≡ Some c → AcceptsPrepare (Preparing (prepare_of hash next)) (high_end (prepare_of hash next)) × (Confirmed b (Prepared (high_end (prepare_of hash next))) ⊎ KeepsVote own (prepare_of hash next))
    votes_well c e =
        let h = some_of (λ h. IsLowUnder c h × NoneOver next h) next.high (ready.low c e) in
        let w = some_of (λ w. AtMost h.0 w) next.confirmed (ready.high h.0 h.1).0 in
        let q = some_of (λ q. h.0.value ≡ q.value) next.present (ready.high h.0 h.1).1 in
        let p = some_of (λ p. AtMost w.0 p) next.prepared (ready.confirmed w.0 w.1).1 in
        let below : AtMost h.0 p.0 = at_most_trans h.0 w.0 p.0 w.2 p.2 in
        let compatible : h.0.value ≡ p.0.value = elim (values_decided h.0.value p.0.value) [
          | inl same ↦ same
          | inr apart ↦ absurd (h.2.1.0 (some_and (λ x. IsLess h.0 x × (x.value ≢ h.0.value)) next.prepared p.0 p.1 (at_most_apart h.0 p.0 below apart, λ f. apart (sym f))))
        ] in
        let end : h.0 ≡ high_end (prepare_of hash next) =
        same_ballot h.0.counter (counter_of next.high) h.0.value (or_zero next.present).value (ap counter_of (sym h.1)) (q.2 ∙ ap (λ o. (or_zero o).value) (sym q.1)) in
        let A : Ballot → Type 0 = λ x. IsSomeAnd next.prepared (λ top. IsCovered x top) in
        let C : Ballot → Type 0 = λ x. Confirmed b (Prepared x) in (
          inl (subst A end (some_and (λ top. IsCovered h.0 top) next.prepared p.0 p.1 (covered h.0 p.0 (at_most_counter h.0 p.0 below) compatible))),
          elim (vote c e h.0 h.1) [ inl confirmed ↦ inl (subst C end confirmed) | inr kept ↦ inr (kept_vote c e h.2.0.0 kept) ],
        )

    pub prepare_follows : Follows b own (own_of hash next)
    prepare_follows =
        let P : Phase → Type 0 = λ ph. Follows b own (own_in ph hash next) in
        let here : Follows b own (own_in Prepare hash next) = record {
          values = λ v h. absurd h;
          prepared = λ x names. elim (named x names) [ inl held ↦ inl (held_accepted x held) | inr accepted ↦ inr accepted ];
          votes = λ voted. elim (some_or_none next.low) [ inl c ↦ votes_well c.0 c.1 | inr none ↦ absurd (voted (ap counter_of none)) ];
          accepts = tt;
          externalizes = tt;
        } in
        subst P (sym phase) here

-- In the phase Prepare each rule keeps the state ready, and gives one link.
module _ (b : Seen) (hash : Hash) (own : Option Pledges) (old next : State) (is : b.statement b.me ≡ own) (ready : IsPreparing old) (phase : old.phase ≡ Prepare) (stood : StandsFor own hash old) where
  stands : (own ≡ Some (Preparing (prepare_of hash old))) ⊎ ((own ≡ None) × IsBlank old)
  stands = at_prepare own hash old phase stood

  pub accepting_follows : AcceptsPrepared b old next → Follows b own (own_of hash next)
  accepting_follows step =
      prepare_follows hash own old stands b next (accepting_keeps b old next ready step) (ap (λ (s : State). s.phase) step.frame ∙ phase) named vote
    where
      named : (x : Ballot) → IsHeld next x → IsHeld old x ⊎ Accepted b (Prepared x)
      named x (inl e) = elim step.prepared [
        | inl same ↦ inl (inl (sym same ∙ e))
        | inr more ↦ inr (at_some (λ x. Accepted b (Prepared x) × IsAbove x old.prepared) next.prepared x e more).0
      ]
      named x (inr e) = (step.prime x e).0

      vote : ForSome next.low (λ c. ForSome next.high (λ h. Confirmed b (Prepared h) ⊎ KeepsVoteOf old next))
      vote c e h f = elim step.low [
        | inl cleared ↦ none_some next.low c cleared.0 e
        | inr kept ↦
            let k = some_of (λ h. IsLowUnder c h × NoneOver old h) old.high (ready.low c (sym kept.0 ∙ e)) in
            let p = some_of (λ p. k.0.value ≡ p.value) old.present (ready.high k.0 k.1).1 in
            inr (record {
              low = kept.0;
              high = ap (λ (s : State). s.high) step.frame;
              present = some_and (λ b. IsSomeAnd next.present (λ p. b.value ≡ p.value)) old.present p.0 p.1 (some_and (λ q. p.0.value ≡ q.value) next.present p.0 (ap (λ (s : State). s.present) step.frame ∙ p.1) refl);
            })
      ]

  pub confirming_follows : ConfirmsPrepared b old next → Follows b own (own_of hash next)
  confirming_follows step =
      prepare_follows hash own old stands b next (confirming_keeps b old next ready step covers) (ap (λ (s : State). s.phase) step.frame ∙ phase) named (vote step.low)
    where
      covers : (x : Ballot) → Confirmed b (Prepared x) → IsCoveredBy old x
      covers = confirmed_covered hash own old stands b is

      named : (x : Ballot) → IsHeld next x → IsHeld old x ⊎ Accepted b (Prepared x)
      named x (inl e) = inl (inl (sym (ap (λ (s : State). s.prepared) step.frame) ∙ e))
      named x (inr e) = inl (inr (sym (ap (λ (s : State). s.prime) step.frame) ∙ e))

      kept_with : (c : Ballot) → old.low ≡ Some c → next.low ≡ old.low → next.high ≡ old.high → next.present ≡ old.present → KeepsVoteOf old next
      kept_with c e low high present =
          let k = some_of (λ h. IsLowUnder c h × NoneOver old h) old.high (ready.low c e) in
          let p = some_of (λ p. k.0.value ≡ p.value) old.present (ready.high k.0 k.1).1 in
          record {
            low = low;
            high = high;
            present = some_and (λ b. IsSomeAnd next.present (λ p. b.value ≡ p.value)) old.present p.0 p.1 (some_and (λ q. p.0.value ≡ q.value) next.present p.0 (present ∙ p.1) refl);
          }

      fresh_high : (h x : Ballot) → next.high ≡ Some h → next.high ≡ Some x → Confirmed b (Prepared x) → Confirmed b (Prepared h)
      fresh_high h x f g confirmed = let P : Ballot → Type 0 = λ y. Confirmed b (Prepared y) in subst P (some_same next.high x h g f) confirmed

      vote : LowAfter old next → ForSome next.low (λ c. ForSome next.high (λ h. Confirmed b (Prepared h) ⊎ KeepsVoteOf old next))
      vote (inl kept) c e h f = elim step.confirmed [
        | inl stale ↦ inr (kept_with c (sym kept.0 ∙ e) kept.0 stale.2 stale.1)
        | inr fresh ↦
            let x = some_of (λ x. (x.counter ≢ 0) × Confirmed b (Prepared x) × IsAbove x old.confirmed × Joins x old next) next.confirmed fresh in
            elim x.2.3 [
              | inl raised ↦ inl (fresh_high h x.0 f raised.2 x.2.1)
              | inr (inl joined) ↦ inl (fresh_high h x.0 f joined.2 x.2.1)
              | inr (inr apart) ↦ inr (kept_with c (sym kept.0 ∙ e) kept.0 apart.2 apart.1)
            ]
      ]
      vote (inr (inl votes)) c e h f = inl (at_some (λ h. Confirmed b (Prepared h)) next.high h f (new_vote_is_confirmed b old next ready step covers votes))
      vote (inr (inr cleared)) c e h f = none_some next.low c cleared.0 e

  pub raising_follows : Raises old next → Follows b own (own_of hash next)
  raising_follows step =
      prepare_follows hash own old stands b next (raising_keeps old next ready step) (ap (λ (s : State). s.phase) step.frame ∙ phase) named vote
    where
      named : (x : Ballot) → IsHeld next x → IsHeld old x ⊎ Accepted b (Prepared x)
      named x (inl e) = inl (inl (sym (ap (λ (s : State). s.prepared) step.frame) ∙ e))
      named x (inr e) = inl (inr (sym (ap (λ (s : State). s.prime) step.frame) ∙ e))

      vote : ForSome next.low (λ c. ForSome next.high (λ h. Confirmed b (Prepared h) ⊎ KeepsVoteOf old next))
      vote c e h f = elim step.low [
        | inl cleared ↦ none_some next.low c cleared e
        | inr kept ↦
            let k = some_of (λ h. IsLowUnder c h × NoneOver old h) old.high (ready.low c (sym kept.0 ∙ e)) in
            let w = some_of (λ w. AtMost k.0 w) old.confirmed (ready.high k.0 k.1).0 in
            let p = some_of (λ p. k.0.value ≡ p.value) old.present (ready.high k.0 k.1).1 in
            let q = some_of (λ p. (counter_of old.present < p.counter) × ForSome old.confirmed (λ w. p.value ≡ w.value)) next.present step.present in
            let cq : c.value ≡ q.0.value = at_some (λ b. c.value ≡ b.value) next.present q.0 q.1 (kept.1 c (sym kept.0 ∙ e)) in
            let pq : p.0.value ≡ q.0.value = sym p.2 ∙ sym k.2.0.1 ∙ cq in
            let settled : old.high ≡ Some w.0 = ready.settled w.0 w.1 p.0 p.1 (sym (q.2.1 w.0 w.1) ∙ sym pq) in
            inr (record {
              low = kept.0;
              high = step.high w.0 w.1 ∙ sym settled;
              present = some_and (λ b. IsSomeAnd next.present (λ p. b.value ≡ p.value)) old.present p.0 p.1 (some_and (λ r. p.0.value ≡ r.value) next.present q.0 q.1 pq);
            })
      ]

  pub composing_follows : (z : List ℕ) → Composes z old next → Follows b own (own_of hash next)
  composing_follows z step =
      prepare_follows hash own old stands b next (composing_keeps z old next ready step) (ap (λ (s : State). s.phase) step.frame ∙ phase) named vote
    where
      named : (x : Ballot) → IsHeld next x → IsHeld old x ⊎ Accepted b (Prepared x)
      named x (inl e) = inl (inl (sym (ap (λ (s : State). s.prepared) step.frame) ∙ e))
      named x (inr e) = inl (inr (sym (ap (λ (s : State). s.prime) step.frame) ∙ e))

      vote : ForSome next.low (λ c. ForSome next.high (λ h. Confirmed b (Prepared h) ⊎ KeepsVoteOf old next))
      vote c e h f =
          let same_low : next.low ≡ old.low = ap (λ (s : State). s.low) step.frame in
          let k = some_of (λ h. IsLowUnder c h × NoneOver old h) old.high (ready.low c (sym same_low ∙ e)) in
          let p = some_of (λ p. k.0.value ≡ p.value) old.present (ready.high k.0 k.1).1 in
          inr (record {
            low = same_low;
            high = ap (λ (s : State). s.high) step.frame;
            present = elim step.present [
              | inl same ↦ some_and (λ b. IsSomeAnd next.present (λ p. b.value ≡ p.value)) old.present p.0 p.1 (some_and (λ q. p.0.value ≡ q.value) next.present p.0 (same.0 ∙ p.1) refl)
              | inr first ↦ none_some old.present p.0 first.0 p.1
            ];
          })

  pub held_first : (x : Ballot) → IsHeld old x → IsSomeAnd own (λ p. AcceptsPrepare p x)
  held_first = held_accepted hash own old stands

-- An accepted commit, from either phase.
pub commit_follows : (b : Seen) (hash : Hash) (own : Option Pledges) (old next : State) → ((x : Ballot) → IsHeld old x → IsSomeAnd own (λ p. AcceptsPrepare p x))
    → AcceptsCommit b old next → Follows b own (own_of hash next)
commit_follows b hash own old next held step =
    let P : Phase → Type 0 = λ ph. Follows b own (own_in ph hash next) in
    let c = some_of (λ c. IsSomeAnd next.high (λ h. (c.counter ≢ 0) × (c.value ≡ h.value) × (c.counter ≤ h.counter) × Accepted b (Committed c.counter h.counter h.value)
    × IsSomeAnd next.present (λ p. (h.value ≡ p.value) × (h.counter ≤ p.counter)))) next.low step.range in
    let h = some_of (λ h. (c.0.counter ≢ 0) × (c.0.value ≡ h.value) × (c.0.counter ≤ h.counter) × Accepted b (Committed c.0.counter h.counter h.value)
    × IsSomeAnd next.present (λ p. (h.value ≡ p.value) × (h.counter ≤ p.counter))) next.high c.2 in
    let p = some_of (λ p. (h.0.value ≡ p.value) × (h.0.counter ≤ p.counter)) next.present h.2.4 in
    let value : h.0.value ≡ (or_zero next.present).value = p.2.0 ∙ ap (λ o. (or_zero o).value) (sym p.1) in
    let here : Follows b own (own_in Confirm hash next) = record {
      values = λ v k. absurd k;
      prepared = λ x names. elim (some_or_none next.prepared) [
        | inl y ↦
            let was = step.prepared y.0 y.1 in
            let same : y.0 ≡ x =
            same_ballot y.0.counter (counter_of next.prepared) y.0.value (or_zero next.present).value (ap counter_of (sym y.1)) (at_some (λ c. y.0.value ≡ c.value) next.low c.0 c.1 was.1 ∙ h.2.1 ∙ value) ∙ sym names.1 in
            inl (let Q : Ballot → Type 0 = λ x. IsSomeAnd own (λ p. AcceptsPrepare p x) in subst Q same (held y.0 was.0))
        | inr none ↦ absurd (names.0 (ap counter_of none))
      ];
      votes = tt;
      accepts = inr (
          let R : ℕ → Type 0 = λ n. Accepted b (Committed n (counter_of next.high) (or_zero next.present).value) in
          let S : ℕ → Type 0 = λ n. Accepted b (Committed c.0.counter n (or_zero next.present).value) in
          let T : List ℕ → Type 0 = λ v. Accepted b (Committed c.0.counter h.0.counter v) in
          subst R (ap counter_of (sym c.1)) (subst S (ap counter_of (sym h.1)) (subst T value h.2.3)));
      externalizes = tt;
    } in
    subst P (sym step.phase) here

pub externalize_follows : (b : Seen) (hash : Hash) (own : Option Pledges) (old next : State) → ConfirmsCommit b old next → Follows b own (own_of hash next)
externalize_follows b hash own old next step =
    let P : Phase → Type 0 = λ ph. Follows b own (own_in ph hash next) in
    let c = some_of (λ c. IsSomeAnd next.high (λ h. (c.counter ≢ 0) × (c.value ≡ h.value) × (c.counter ≤ h.counter) × Confirmed b (Committed c.counter h.counter h.value))) next.low step.range in
    let h = some_of (λ h. (c.0.counter ≢ 0) × (c.0.value ≡ h.value) × (c.0.counter ≤ h.counter) × Confirmed b (Committed c.0.counter h.counter h.value)) next.high c.2 in
    let here : Follows b own (own_in Externalize hash next) = record {
      values = λ v k. absurd k;
      prepared = λ x names. absurd names;
      votes = tt;
      accepts = tt;
      externalizes = inr (
          let R : ℕ → Type 0 = λ n. Confirmed b (Committed n (counter_of next.high) (or_zero next.low).value) in
          let S : ℕ → Type 0 = λ n. Confirmed b (Committed c.0.counter n (or_zero next.low).value) in
          let T : List ℕ → Type 0 = λ v. Confirmed b (Committed c.0.counter h.0.counter v) in
          subst R (ap (λ o. (or_zero o).counter) (sym c.1)) (subst S (ap counter_of (sym h.1)) (subst T (sym h.2.1 ∙ ap (λ o. (or_zero o).value) (sym c.1)) h.2.3)));
    } in
    subst P (sym step.phase) here
