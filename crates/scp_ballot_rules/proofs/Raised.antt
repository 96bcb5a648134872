-- What raising a counter builds.
use Rattle.std.proofs.Common.{◌≡◌, ◌≢◌, ◌<◌, ℕ, List, Option, Some, None, IsSome, IsSomeAnd, IfSome, true, false, refl, sym, ◌∙◌, ap, subst, ◌⊎◌, inl, inr, arith}
use Rattle.std.specs.Option.{ForSome}
use Rattle.scp_vote.specs.scp_types.specs.declared.ballot.Ballot.{Ballot}
use Rattle.scp_ballot_rules.specs.declared.state.State.{State}
use Rattle.scp_ballot_rules.specs.Own.{counter_of}
use Rattle.scp_ballot_rules.specs.Ready.{HasValue}
use Rattle.scp_ballot_rules.specs.inside.Rules.{Raises}
use Rattle.scp_ballot_rules.specs.Rules.{raised_value}

value_there : (w : Option Ballot) (z : Option (List ℕ)) (p : Option Ballot) (v : List ℕ) → raised_value w z p ≡ Some v → IsSome w ⊎ IsSome z ⊎ IsSome p
value_there (Some w) z p v e = inl refl
value_there None (Some z) p v e = inr (inl refl)
value_there None None (Some p) v e = inr (inr refl)
value_there None None None v e = cc

pub no_value : (s : State) → raised_value s.confirmed s.composite s.prepared ≡ None → HasValue s → ⊥
no_value s e h = without s.confirmed s.composite s.prepared e h
  where
    without : (w : Option Ballot) (z : Option (List ℕ)) (p : Option Ballot) → raised_value w z p ≡ None → IsSome w ⊎ IsSome z ⊎ IsSome p → ⊥
    without (Some w) z p e h = cc
    without None (Some z) p e h = cc
    without None None (Some p) e h = cc
    without None None None e (inl h) = let k : false ≡ true = h in cc
    without None None None e (inr (inl h)) = let k : false ≡ true = h in cc
    without None None None e (inr (inr h)) = let k : false ≡ true = h in cc

value_of_confirmed : (w : Option Ballot) (z : Option (List ℕ)) (p : Option Ballot) (v : List ℕ) → raised_value w z p ≡ Some v → ForSome w (λ x. v ≡ x.value)
value_of_confirmed None z p v e x f = cc
value_of_confirmed (Some y) z p v e x f = let k : v ≡ y.value = cc in let same : y ≡ x = cc in k ∙ ap (λ (b : Ballot). b.value) same

high_from : (w high : Option Ballot) → IfSome w (λ x. high ≡ w) → ForSome w (λ x. high ≡ Some x)
high_from None high h x e = cc
high_from (Some y) high h x e = h ∙ e

pub raised : (s : State) (n : ℕ) (v : List ℕ) (high low : Option Ballot) → counter_of s.present < n → raised_value s.confirmed s.composite s.prepared ≡ Some v
    → (IfSome s.confirmed (λ w. high ≡ s.confirmed)) × (s.confirmed ≡ None → high ≡ s.high)
    → (low ≡ None) ⊎ ((low ≡ s.low) × ForSome s.low (λ c. c.value ≡ v))
    → Raises s (record s { present = Some (record { counter = n; value = v }); high = high; low = low })
raised s n v high low up value highs lows = record {
  frame = refl;
  value = value_there s.confirmed s.composite s.prepared v value;
  present = (up, value_of_confirmed s.confirmed s.composite s.prepared v value);
  raised = value;
  high = high_from s.confirmed high highs.0;
  no_high = highs.1;
  low = lows;
}
