-- Where the value of the own ballot comes from.
use Rattle.std.proofs.Common.{◌≡◌, ◌≢◌, ◌⊎◌, ℕ, List, Option, Some, refl, sym, ◌∙◌, ap, subst, inl, inr, arith}
use Rattle.std.specs.Option.{ForSome}
use Rattle.scp_ballot_rules.specs.scp_types.specs.declared.ballot.Ballot.{Ballot}
use Rattle.scp_ballot_rules.specs.scp_types.specs.declared.names.Hash.{Hash}
use Rattle.scp_ballot_rules.specs.scp_envelope.specs.declared.statement.Pledges.{Pledges}
use Rattle.scp_ballot_rules.specs.scp_vote.specs.Board.{Seen}
use Rattle.scp_ballot_rules.specs.declared.state.State.{State}
use Rattle.scp_ballot_rules.specs.declared.state.Phase.{Phase}
use Rattle.scp_ballot_rules.specs.declared.state.Phase.TheVariants.{Prepare, Confirm, Externalize}
use Rattle.scp_ballot_rules.specs.Own.{own_of, own_in, or_zero, counter_of, StandsFor}
use Rattle.scp_ballot_rules.specs.inside.Rises.{place, Rises, HasComposite, Moves}
use Rattle.scp_ballot_rules.proofs.Options.{some_of, some_same, none_some}
use Rattle.scp_ballot.specs.Balloting.{HasPresent, KeepsValue}

-- what an input makes of the ballot, before the rules are applied
abbrev pub Enters : State → State → Type 0
Enters s next = next.phase ≡ Prepare → (next.present ≡ s.present) ⊎ (counter_of next.high ≢ 0) ⊎ HasComposite next

-- what a state in the phase Prepare says of its ballot
abbrev ValueIn : Option Pledges → Option (List ℕ) → State → Type 0
ValueIn before z t = HasPresent before (or_zero t.present) ⊎ (counter_of t.high ≢ 0) ⊎ ForSome z (λ v. (or_zero t.present).value ≡ v)

keeps_in : (before : Option Pledges) (z : Option (List ℕ)) (ph : Phase) (hash : Hash) (t : State) → (ph ≡ Prepare → ValueIn before z t) → KeepsValue before z (own_in ph hash t)
keeps_in before z Prepare hash t h = h refl
keeps_in before z Confirm hash t h = tt
keeps_in before z Externalize hash t h = tt

-- the first phase was there before
pub still_first : (s t : State) → Rises s t → t.phase ≡ Prepare → s.phase ≡ Prepare
still_first s t (inl later) e = absurd (omega (arith, later, ap place e))
still_first s t (inr same) e = sym same.0 ∙ e

same_present : (before : Option Pledges) (hash : Hash) (s t : State) → StandsFor before hash s → s.phase ≡ Prepare → t.present ≡ s.present → HasPresent before (or_zero t.present)
same_present before hash s t (inl is) phase same =
    let P : Option Pledges → Type 0 = λ o. HasPresent o (or_zero t.present) in
    subst P (sym is) (subst (λ ph. HasPresent (Some (own_in ph hash s)) (or_zero t.present)) (sym phase) (ap or_zero same))
same_present before hash s t (inr none) phase same =
    let P : Option Pledges → Type 0 = λ o. HasPresent o (or_zero t.present) in
    subst P (sym none.0) (ap or_zero (same ∙ none.1.present))

pub composite_value : (s : State) (present : Option Ballot) → present ≡ s.present → HasComposite s → (v : List ℕ) → s.composite ≡ Some v → (or_zero present).value ≡ v
composite_value s present same has v e =
    let p = some_of (λ x. x.value ≡ v) s.present (has v e) in
    ap (λ o. (or_zero o).value) (same ∙ p.1) ∙ p.2

module _ (b : Seen) (before now : Option Pledges) (hash other : Hash) (s first t : State) (stood : StandsFor before hash s) (stands : StandsFor now other t)
    (still : first.phase ≡ s.phase) (enters : Enters s first) (rises : Rises first t) (composite : t.composite ≡ first.composite) (moves : Moves b first t) where
  value_in : t.phase ≡ Prepare → ValueIn before t.composite t
  value_in phase = elim (moves phase) [
    | inl same ↦ elim (enters (still_first first t rises phase)) [
      | inl kept ↦ inl (same_present before hash s t stood (sym still ∙ still_first first t rises phase) (same.0 ∙ kept))
      | inr (inl high) ↦ inr (inl (λ zero. high (sym (ap counter_of same.1) ∙ zero)))
      | inr (inr has) ↦ inr (inr (λ v e. composite_value first t.present same.0 has v (sym composite ∙ e)))
    ]
    | inr (inl high) ↦ inr (inl high)
    | inr (inr ahead) ↦ inr (inr (λ v e. composite_value t t.present refl ahead.1 v e))
  ]

  pub values_kept : ForSome now (λ q. KeepsValue before t.composite q)
  values_kept q e = elim stands [
    | inl is ↦ subst (λ x. KeepsValue before t.composite x) (some_same now (own_of other t) q is e) (keeps_in before t.composite t.phase other t value_in)
    | inr none ↦ none_some now q none.0 e
  ]
