-- The highest accepted ballot below another.
use Rattle.std.proofs.Common.{◌≡◌, List, Option, Some, None, IsSomeAnd, Contains, refl, sym, ◌∙◌, ap, subst, ◌⊎◌, inl, inr}
use Rattle.scp_vote.specs.scp_types.specs.declared.ballot.Ballot.{Ballot}
use Rattle.scp_vote.specs.scp_envelope.specs.Ballots.{IsLess}
use Rattle.scp_vote.specs.declared.claim.Claim.TheVariants.{Prepared}
use Rattle.scp_vote.specs.Board.{Seen, Accepted}
use Rattle.scp_ballot_rules.specs.declared.state.State.{State}
use Rattle.scp_ballot_rules.specs.Order.{AtMost, FitsUnder, IsAbove}
use Rattle.scp_ballot_rules.specs.Rules.{IsHeld}
use Rattle.scp_ballot_rules.proofs.Options.{some_of, some_and, at_some, none_some, some_same}
use Rattle.scp_ballot_rules.proofs.Order.{either_way, at_most_trans}
use Rattle.scp_ballot_rules.specs.declared.finding.Bound.{Bound}
use Rattle.scp_ballot_rules.specs.declared.finding.Bound.TheVariants.{Under}
use Rattle.scp_ballot_rules.specs.inside.Finding.{IsWithin, IsGreatest, Keeps, IsPrimeUnder, IsPrimeOf}

-- what isn't above is at most
pub not_above : (x : Ballot) (o : Option Ballot) → ¬ (IsAbove x o) → IsSomeAnd o (λ y. AtMost x y)
not_above x None not = absurd (not (λ y e. none_some None y refl e))
not_above x (Some y) not = elim (either_way x y) [ inl le ↦ le | inr turned ↦ absurd (not (λ z e. subst (λ w. IsLess w x) (some_same (Some y) y z refl e) turned)) ]

pub greatest_rises : (P : Ballot → Type 0) (list : List Ballot) (floor best : Option Ballot) → IsGreatest P list floor best → (x : Ballot) → floor ≡ Some x → IsSomeAnd best (λ y. AtMost x y)
greatest_rises P list floor best g x e = elim g.found [
  | inl same ↦ some_and (λ y. AtMost x y) best x (same ∙ e) (inl refl)
  | inr more ↦ let y = some_of (λ x. P x × IsAbove x floor × Contains list x) best more in some_and (λ z. AtMost x z) best y.0 y.1 (inr (y.2.1 x e))
]

module _ (bound : Bound) (o best new : Option Ballot) (k : Keeps bound o best new) where
  keeps_rises : (x : Ballot) → best ≡ Some x → IsSomeAnd new (λ y. AtMost x y)
  keeps_rises x e = elim k [
    | inl took ↦ let y = some_of (λ x. IsWithin bound x × IsAbove x best × (new ≡ Some x)) o took in some_and (λ z. AtMost x z) new y.0 y.2.2 (inr (y.2.1 x e))
    | inr left ↦ some_and (λ y. AtMost x y) new x (left.0 ∙ e) (inl refl)
  ]

  keeps_takes : (x : Ballot) → o ≡ Some x → IsWithin bound x → IsSomeAnd new (λ y. AtMost x y)
  keeps_takes x e within = elim k [
    | inl took ↦ some_and (λ z. AtMost x z) new x (at_some (λ x. IsWithin bound x × IsAbove x best × (new ≡ Some x)) o x e took).2 (inl refl)
    | inr left ↦ (let P : Option Ballot → Type 0 = λ q. IsSomeAnd q (λ y. AtMost x y) in subst P (sym left.0) (not_above x best (left.1 x e within)))
  ]

  keeps_from : (x : Ballot) → new ≡ Some x → (best ≡ Some x) ⊎ ((o ≡ Some x) × IsWithin bound x)
  keeps_from x e = elim k [
    | inl took ↦
        let y = some_of (λ x. IsWithin bound x × IsAbove x best × (new ≡ Some x)) o took in
        let same : y.0 ≡ x = some_same new y.0 x y.2.2 e in
        inr (y.1 ∙ ap Some same, subst (λ z. IsWithin bound z) same y.2.0)
    | inr left ↦ inl (sym left.0 ∙ e)
  ]

-- first the lower one that was held, then the higher one, then what is accepted now
module _ (b : Seen) (old : State) (p : Ballot) (first second prime : Option Ballot) (list : List Ballot)
    (k : Keeps (Under p) old.prime None first) (l : Keeps (Under p) old.prepared first second)
    (g : IsGreatest (λ x. FitsUnder x p × Accepted b (Prepared x)) list second prime) where
  held_fits : (x : Ballot) → second ≡ Some x → IsHeld old x × FitsUnder x p
  held_fits x e = elim (keeps_from (Under p) old.prepared first second l x e) [
    | inl was ↦ elim (keeps_from (Under p) old.prime None first k x was) [ inl none ↦ none_some None x refl none | inr took ↦ (inr took.0, took.1) ]
    | inr took ↦ (inl took.0, took.1)
  ]

  up : (o n : Option Ballot) (x : Ballot) → ((y : Ballot) → o ≡ Some y → IsSomeAnd n (λ z. AtMost y z)) → IsSomeAnd o (λ y. AtMost x y) → IsSomeAnd n (λ y. AtMost x y)
  up o n x rises h =
      let y = some_of (λ y. AtMost x y) o h in
      let z = some_of (λ z. AtMost y.0 z) n (rises y.0 y.1) in
      some_and (λ w. AtMost x w) n z.0 z.1 (at_most_trans x y.0 z.0 y.2 z.2)

  held_rises : (x : Ballot) → IsHeld old x → FitsUnder x p → IsSomeAnd second (λ y. AtMost x y)
  held_rises x (inl e) fits = keeps_takes (Under p) old.prepared first second l x e fits
  held_rises x (inr e) fits = up first second x (keeps_rises (Under p) old.prepared first second l) (keeps_takes (Under p) old.prime None first k x e fits)

  pub prime_under : (prepared : Option Ballot) → prepared ≡ Some p → IsPrimeUnder b old prepared prime
  prime_under prepared is = record {
    below = λ x e. elim g.found [
      | inl same ↦ let held = held_fits x (sym same ∙ e) in (inl held.0, some_and (λ p. FitsUnder x p) prepared p is held.1)
      | inr more ↦
          let y = at_some (λ x. (FitsUnder x p × Accepted b (Prepared x)) × IsAbove x second × Contains list x) prime x e more in
          (inr y.0.1, some_and (λ p. FitsUnder x p) prepared p is y.0.0)
    ];
    kept = λ x held fits. up second prime x (greatest_rises (λ x. FitsUnder x p × Accepted b (Prepared x)) list second prime g) (held_rises x held (at_some (λ p. FitsUnder x p) prepared p is fits));
  }

  pub prime_of : (prepared : Option Ballot) → prepared ≡ Some p → IsPrimeOf b list old prepared prime
  prime_of prepared is = record {
    among = λ x e. elim g.found [
      | inl same ↦ let held = held_fits x (sym same ∙ e) in (inr held.0, some_and (λ p. FitsUnder x p) prepared p is held.1)
      | inr more ↦
          let y = at_some (λ x. (FitsUnder x p × Accepted b (Prepared x)) × IsAbove x second × Contains list x) prime x e more in
          (inl (y.2, y.0.1), some_and (λ p. FitsUnder x p) prepared p is y.0.0)
    ];
    greatest = λ x h.
        let fits : FitsUnder x p = at_some (λ p. FitsUnder x p) prepared p is h.1 in
        elim h.0 [
          | inl a ↦ not_above x prime (g.others x a.0 (fits, a.1))
          | inr held ↦ up second prime x (greatest_rises (λ x. FitsUnder x p × Accepted b (Prepared x)) list second prime g) (held_rises x held fits)
        ];
  }

pub no_prime_of : (b : Seen) (list : List Ballot) (old : State) (prepared : Option Ballot) → prepared ≡ None → IsPrimeOf b list old prepared None
no_prime_of b list old prepared none = record {
  among = λ x e. none_some None x refl e;
  greatest = λ x h. let y = some_of (λ p. FitsUnder x p) prepared h.1 in none_some prepared y.0 none y.1;
}

-- nothing is below an absent ballot
pub no_prime : (b : Seen) (old : State) (prepared : Option Ballot) → prepared ≡ None → IsPrimeUnder b old prepared None
no_prime b old prepared none = record {
  below = λ x e. none_some None x refl e;
  kept = λ x held fits. let y = some_of (λ p. FitsUnder x p) prepared fits in none_some prepared y.0 none y.1;
}
