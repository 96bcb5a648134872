-- Going over a list, the best of it is found.
use Rattle.std.proofs.Common.{◌≡◌, ◌≢◌, ◌<◌, ◌≤◌, ◌+◌, ℕ, List, length, get_or, Option, None, IsSomeAnd, Contains, refl, sym, ◌∙◌, ap, subst, ◌⊎◌, inl, inr, arith}
use Rattle.std.specs.Option.{ForSome}
use Rattle.std.proofs.lemmas.List.{get_or_default}
use Rattle.std.proofs.lemmas.Bool.{cases_order}
use Rattle.scp_vote.specs.scp_types.specs.declared.ballot.Ballot.{Ballot}
use Rattle.scp_vote.specs.scp_envelope.specs.Ballots.{IsLess}
use Rattle.scp_ballot_rules.specs.Order.{IsAbove}
use Rattle.scp_ballot_rules.proofs.Options.{some_of, some_and, none_some, some_same}
use Rattle.scp_ballot_rules.proofs.Order.{less_trans, less_irrefl}
use Rattle.scp_ballot_rules.specs.inside.Finding.{IsGreatest, Betters, IsFound, Finds}

-- the ballot is in the list before the index
abbrev pub IsBefore : List Ballot → ℕ → Ballot → Type 0
IsBefore list i x = (k : ℕ) × (k < i) × (get_or list k x ≡ x)

-- the greatest of the list before the index
pub record IsGreatestBefore (P : Ballot → Type 0) (list : List Ballot) (i : ℕ) (floor best : Option Ballot) : Type 0 where
  pub found : (best ≡ floor) ⊎ IsSomeAnd best (λ x. P x × IsAbove x floor × Contains list x)
  pub others : (x : Ballot) → IsBefore list i x → P x → ¬ (IsAbove x best)

-- one of the list before the index
pub record IsFoundBefore (P : Ballot → Type 0) (list : List Ballot) (i : ℕ) (best : Option Ballot) : Type 0 where
  pub found : ForSome best (λ x. P x × Contains list x)
  pub none : best ≡ None → (x : Ballot) → IsBefore list i x → ¬ (P x)

last_or_before : (i k : ℕ) → k < i + 1 → (k < i) ⊎ (k ≡ i)
last_or_before i k h = elim (cases_order k i) [ inl e ↦ inr e | inr apart ↦ elim apart [ inl lt ↦ inl lt | inr gt ↦ absurd (omega (arith, h, gt)) ] ]

above_trans : (x y : Ballot) (o : Option Ballot) → IsLess y x → IsAbove y o → IsAbove x o
above_trans x y o up above z e = less_trans z y x (above z e) up

-- the low end of a range so far
pub record IsLowest (R : ℕ → Type 0) (high least : ℕ) : Type 0 where
  pub counted : least ≢ 0
  pub ascends : least ≤ high
  pub reached : R least

module _ (list : List Ballot) (i : ℕ) (ballot : Ballot) (lt : i < length list) (is : ballot ≡ get_or list i ballot) where
  pub here_is : (x : Ballot) → get_or list i x ≡ x → ballot ≡ x
  here_is x e = is ∙ get_or_default list i ballot x lt ∙ e

  pub contained : Contains list ballot
  contained = (i, lt, sym is)

  pub earlier : (x : Ballot) → IsBefore list (i + 1) x → IsBefore list i x ⊎ (ballot ≡ x)
  earlier x h = elim (last_or_before i h.0 h.1) [
    | inl lt ↦ inl (h.0, lt, h.2)
    | inr e ↦ inr (here_is x (ap (λ k. get_or list k x) (sym e) ∙ h.2))
  ]

  pub lowest_more : (R : ℕ → Type 0) (high least new : ℕ) → ((x : Ballot) → Contains list x → x.counter ≢ 0) → IsLowest R high least → (new ≡ least) ⊎ ((new ≡ ballot.counter) × (new < least) × R new) → IsLowest R high new
  lowest_more R high least new counted g (inl same) = subst (λ n. IsLowest R high n) (sym same) g
  lowest_more R high least new counted g (inr now) = record { counted = λ zero. counted ballot contained (sym now.0 ∙ zero); ascends = omega (arith, g.ascends, now.1); reached = now.2 }

  module _ (P : Ballot → Type 0) where
    pub greatest_more : (floor best new : Option Ballot) → IsGreatestBefore P list i floor best → Betters P ballot best new → IsGreatestBefore P list (i + 1) floor new
    greatest_more floor best new g (inr (same, worse)) = record {
      found = subst (λ o. (o ≡ floor) ⊎ IsSomeAnd o (λ x. P x × IsAbove x floor × Contains list x)) (sym same) g.found;
      others = λ x before p above.
          let was : IsAbove x best = subst (λ o. IsAbove x o) same above in
          elim (earlier x before) [ inl k ↦ g.others x k p was | inr e ↦ worse (subst P (sym e) p) (subst (λ y. IsAbove y best) (sym e) was) ];
    }
    greatest_more floor best new g (inl (now, p, above)) = record {
      found = inr (some_and (λ x. P x × IsAbove x floor × Contains list x) new ballot now (p, over_floor g.found, contained));
      others = λ x before q over.
          let up : IsLess ballot x = over ballot now in
          elim (earlier x before) [ inl k ↦ g.others x k q (above_trans x ballot best up above) | inr e ↦ less_irrefl x (subst (λ y. IsLess y x) e up) ];
    }
      where
        over_floor : (best ≡ floor) ⊎ IsSomeAnd best (λ x. P x × IsAbove x floor × Contains list x) → IsAbove ballot floor
        over_floor (inl e) = subst (λ o. IsAbove ballot o) e above
        over_floor (inr h) = let y = some_of (λ x. P x × IsAbove x floor × Contains list x) best h in above_trans ballot y.0 floor (above y.0 y.1) y.2.1

    pub found_more : (best new : Option Ballot) → IsFoundBefore P list i best → Finds P ballot best new → IsFoundBefore P list (i + 1) new
    found_more best new g (inl (now, p)) = record {
      found = λ x e. (subst P (some_same new ballot x now e) p, subst (λ y. Contains list y) (some_same new ballot x now e) contained);
      none = λ none x before q. none_some new ballot none now;
    }
    found_more best new g (inr (same, worse)) = record {
      found = subst (λ o. ForSome o (λ x. P x × Contains list x)) (sym same) g.found;
      none = λ none x before q.
          let was : best ≡ None = sym same ∙ none in
          elim (earlier x before) [ inl k ↦ g.none was x k q | inr e ↦ worse was (subst P (sym e) q) ];
    }

module _ (P : Ballot → Type 0) (list : List Ballot) where
  pub greatest_start : (floor : Option Ballot) → IsGreatestBefore P list 0 floor floor
  greatest_start floor = record { found = inl refl; others = λ x before. absurd (omega (arith, before.1)) }

  pub greatest_end : (i : ℕ) (floor best : Option Ballot) → length list ≤ i → IsGreatestBefore P list i floor best → IsGreatest P list floor best
  greatest_end i floor best le g = record { found = g.found; others = λ x h. g.others x (h.0, omega (arith, le, h.1), h.2) }

  pub found_start : (best : Option Ballot) → best ≡ None → IsFoundBefore P list 0 best
  found_start best none = record { found = λ x e. none_some best x none e; none = λ e x before. absurd (omega (arith, before.1)) }

  pub found_end : (i : ℕ) (best : Option Ballot) → length list ≤ i → IsFoundBefore P list i best → IsFound P list best
  found_end i best le g = record { found = g.found; none = λ e x h. g.none e x (h.0, omega (arith, le, h.1), h.2) }
