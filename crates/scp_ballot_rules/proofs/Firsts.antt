-- Going over boundaries, the first that is reached is found, and the least one of its value.
use Rattle.std.proofs.Common.{◌≡◌, ◌≢◌, ◌<◌, ◌≤◌, ◌+◌, ◌↔◌, ℕ, List, length, get_or, Option, Some, None, IsTrue, nat_lt, Contains, sym, ◌∙◌, ap, subst, inl, inr, arith}
use Rattle.std.specs.Option.{ForSome}
use Rattle.std.specs.declared.cmp.Ordering.TheVariants.{Less, Equal}
use Rattle.std.proofs.lemmas.Bool.Decides.{nat_tests}
use Rattle.std.proofs.lemmas.Cmp.{nat_list_cmp_total, tied_itself}
use Rattle.scp_vote.specs.scp_types.specs.declared.ballot.Ballot.{Ballot}
use Rattle.scp_vote.specs.scp_envelope.specs.Ballots.{value_cmp}
use Rattle.scp_ballot_rules.specs.Greatest.{ballot_at}
use Rattle.scp_ballot_rules.proofs.Options.{none_some, some_same}
use Rattle.scp_ballot_rules.specs.inside.Finding.{Precedes, GoesBefore, Leads, IsFirst, Lowers, IsLeastOf}
use Rattle.scp_ballot_rules.proofs.Best.{IsBefore, earlier, contained}

values_irrefl : (v : List ℕ) → value_cmp v v ≡ Less → ⊥
values_irrefl v h = let e : Less ≡ Equal = sym h ∙ tied_itself nat_list_cmp_total v in cc

precedes_trans : (x y z : Ballot) → Precedes x y → Precedes y z → Precedes x z
precedes_trans x y z (inl h) (inl k) = inl (h.0 ∙ k.0, omega (arith, h.1, k.1))
precedes_trans x y z (inl h) (inr k) = inr (subst (λ v. value_cmp v z.value ≡ Less) (sym h.0) k)
precedes_trans x y z (inr h) (inl k) = inr (subst (λ v. value_cmp x.value v ≡ Less) k.0 h)
precedes_trans x y z (inr h) (inr k) = inr (nat_list_cmp_total.trans x.value y.value z.value h k)

precedes_irrefl : (x : Ballot) → Precedes x x → ⊥
precedes_irrefl x (inl h) = absurd (omega (arith, h.1))
precedes_irrefl x (inr h) = values_irrefl x.value h

lt_of : (m n : ℕ) → IsTrue (nat_lt m n) → m < n
lt_of m n h = grind (arith, nat_tests)

of_lt : (m n : ℕ) → m < n → IsTrue (nat_lt m n)
of_lt m n h = grind (arith, nat_tests)

-- of one value the greater counter goes before
pub same_value : (x y : Ballot) (best : Option Ballot) → x.value ≡ y.value → best ≡ Some y → IsTrue (nat_lt y.counter x.counter) ↔ GoesBefore x best
same_value x y best same is = (
  λ less z e. inl (same ∙ ap (λ (b : Ballot). b.value) (here z e), omega (arith, lt_of y.counter x.counter less, ap (λ (b : Ballot). b.counter) (here z e))),
  λ goes. elim (goes y is) [ inl h ↦ of_lt y.counter x.counter h.1 | inr h ↦ absurd (values_irrefl y.value (subst (λ v. value_cmp v y.value ≡ Less) same h)) ],
)
  where
    here : (z : Ballot) → best ≡ Some z → y ≡ z
    here z e = some_same best y z is e

-- the first of the list before the index
pub record IsFirstBefore (P : Ballot → Type 0) (list : List Ballot) (i : ℕ) (best : Option Ballot) : Type 0 where
  pub found : ForSome best (λ x. P x × Contains list x)
  pub others : (x : Ballot) → IsBefore list i x → P x → ¬ (GoesBefore x best)

-- the least of the value before the index
pub record IsLeastBefore (R : ℕ → Type 0) (v : List ℕ) (list : List Ballot) (i high least : ℕ) : Type 0 where
  pub counted : least ≢ 0
  pub ascends : least ≤ high
  pub among : Contains list (ballot_at least v) × R least
  pub below : (x : Ballot) → IsBefore list i x → x.value ≡ v → R x.counter → least ≤ x.counter

module _ (list : List Ballot) (i : ℕ) (ballot : Ballot) (lt : i < length list) (is : ballot ≡ get_or list i ballot) where
  pub first_more : (P : Ballot → Type 0) (best new : Option Ballot) → IsFirstBefore P list i best → Leads P ballot best new → IsFirstBefore P list (i + 1) new
  first_more P best new g (inl (now, p, before)) = record {
    found = λ x e. (subst P (some_same new ballot x now e) p, subst (λ y. Contains list y) (some_same new ballot x now e) (contained list i ballot lt is));
    others = λ x k q over.
        let up : Precedes x ballot = over ballot now in
        elim (earlier list i ballot lt is x k) [
          | inl k ↦ g.others x k q (λ y e. precedes_trans x ballot y up (before y e))
          | inr e ↦ precedes_irrefl x (subst (λ y. Precedes x y) e up)
        ];
  }
  first_more P best new g (inr (same, worse)) = record {
    found = subst (λ o. ForSome o (λ x. P x × Contains list x)) (sym same) g.found;
    others = λ x k q over.
        let was : GoesBefore x best = subst (λ o. GoesBefore x o) same over in
        elim (earlier list i ballot lt is x k) [ inl k ↦ g.others x k q was | inr e ↦ worse (subst P (sym e) q) (subst (λ y. GoesBefore y best) (sym e) was) ];
  }

  pub least_more : (R : ℕ → Type 0) (v : List ℕ) (high least new : ℕ) → ((x : Ballot) → Contains list x → x.counter ≢ 0) → IsLeastBefore R v list i high least → Lowers R v ballot least new → IsLeastBefore R v list (i + 1) high new
  least_more R v high least new counted g (inl (now, less, value, r)) =
      let there : Contains list ballot = contained list i ballot lt is in
      record {
        counted = λ zero. counted ballot there (sym now ∙ zero);
        ascends = omega (arith, g.ascends, less);
        among = (subst (λ y. Contains list y) (sym (ap (λ n. ballot_at n v) now ∙ ap (λ w. ballot_at ballot.counter w) (sym value))) there, r);
        below = λ x k same q. elim (earlier list i ballot lt is x k) [
          | inl k ↦ omega (arith, g.below x k same q, less)
          | inr e ↦ omega (arith, now, ap (λ (b : Ballot). b.counter) e)
        ];
      }
  least_more R v high least new counted g (inr (same, worse)) = record {
    counted = λ zero. g.counted (sym same ∙ zero);
    ascends = omega (arith, g.ascends, same);
    among = subst (λ n. Contains list (ballot_at n v) × R n) (sym same) g.among;
    below = λ x k value q. elim (earlier list i ballot lt is x k) [
      | inl k ↦ omega (arith, g.below x k value q, same)
      | inr e ↦
          let was : least ≤ ballot.counter = worse (ap (λ (b : Ballot). b.value) e ∙ value) (subst R (sym (ap (λ (b : Ballot). b.counter) e)) q) in
          omega (arith, was, same, ap (λ (b : Ballot). b.counter) e)
    ];
  }

module _ (list : List Ballot) where
  pub first_start : (P : Ballot → Type 0) (best : Option Ballot) → best ≡ None → IsFirstBefore P list 0 best
  first_start P best none = record { found = λ x e. none_some best x none e; others = λ x before. absurd (omega (arith, before.1)) }

  pub first_end : (P : Ballot → Type 0) (i : ℕ) (best : Option Ballot) → length list ≤ i → IsFirstBefore P list i best → IsFirst P list best
  first_end P i best le g = record { found = g.found; others = λ x h. g.others x (h.0, omega (arith, le, h.1), h.2) }

  pub least_start : (R : ℕ → Type 0) (high : Ballot) → high.counter ≢ 0 → Contains list high → R high.counter → IsLeastBefore R high.value list 0 high.counter high.counter
  least_start R high counted there r = record { counted = counted; ascends = omega arith; among = (there, r); below = λ x before. absurd (omega (arith, before.1)) }

  pub least_end : (R : ℕ → Type 0) (v : List ℕ) (i high least : ℕ) → length list ≤ i → IsLeastBefore R v list i high least → IsLeastOf R v list least
  least_end R v i high least le g = record { among = g.among; least = λ x h. g.below x (h.0, omega (arith, le, h.1), h.2) }
