-- The greatest value is one of them, and none is greater; and the place of a leader.
use Rattle.std.proofs.Common.{◌≡◌, ◌≢◌, ◌<◌, ◌≤◌, ◌+◌, ◌-◌, ◌*◌, ◌/◌, ℕ, zero, suc, List, [], ◌∷◌, refl, sym, ◌∙◌, ap, subst, ◌⊎◌, inl, inr, arith, Contains, cond}
use Rattle.std.specs.Ordering.{nat_cmp, is_lt}
use Rattle.std.specs.declared.cmp.Ordering.{Ordering}
use Rattle.std.specs.declared.cmp.Ordering.TheVariants.{Less, Equal, Greater}
use Rattle.std.specs.Cmp.Lexicographic.{slice_cmp}
use Rattle.std.proofs.lemmas.Cmp.{nat_list_cmp_total, tied_itself}
use Rattle.std.proofs.lemmas.Nat.{mod_below}
use Rattle.std.proofs.Math.Nat.{mod-add-div'}
use Rattle.scp_driver.specs.Kv.{greater, greatest_from, greatest, leader_place, IsGreatest, IsPlace}

abbrev compared : List ℕ → List ℕ → Ordering
compared v w = slice_cmp nat_cmp v w

-- w is not greater than v
abbrev AtMost : List ℕ → List ℕ → Type 0
AtMost v w = compared v w ≢ Less

has_more : (y : List ℕ) (ys : List (List ℕ)) (w : List ℕ) → Contains ys w → Contains (y ∷ ys) w
has_more y ys w h = (suc h.0, omega (arith, h.1), h.2)

has_cases : (y : List ℕ) (ys : List (List ℕ)) (w : List ℕ) → Contains (y ∷ ys) w → (y ≡ w) ⊎ Contains ys w
has_cases y ys w (zero, lt, e) = inl e
has_cases y ys w (suc k, lt, e) = inr (k, omega arith, e)

greater_keeps : (v w x : List ℕ) (o : Ordering) → compared v w ≡ o → AtMost v x → AtMost (cond (is_lt o) w v) x
greater_keeps v w x Less e most = λ lt. most (nat_list_cmp_total.trans v w x e lt)
greater_keeps v w x Equal e most = most
greater_keeps v w x Greater e most = most

greater_tops : (v w : List ℕ) (o : Ordering) → compared v w ≡ o → AtMost (cond (is_lt o) w v) w
greater_tops v w Less e = λ lt. (let same : compared w w ≡ Equal = tied_itself nat_list_cmp_total w in cc)
greater_tops v w Equal e = λ lt. cc
greater_tops v w Greater e = λ lt. cc

greater_among : (v w : List ℕ) (ws : List (List ℕ)) (x : List ℕ) (o : Ordering) → Contains (cond (is_lt o) w v ∷ ws) x → Contains (v ∷ w ∷ ws) x
greater_among v w ws x Less h = has_more v (w ∷ ws) x h
greater_among v w ws x Equal h = around v w ws x h
  where
    around : (v w : List ℕ) (ws : List (List ℕ)) (x : List ℕ) → Contains (v ∷ ws) x → Contains (v ∷ w ∷ ws) x
    around v w ws x h = elim (has_cases v ws x h) [ inl e ↦ (0, omega arith, e) | inr k ↦ has_more v (w ∷ ws) x (has_more w ws x k) ]
greater_among v w ws x Greater h = around v w ws x h
  where
    around : (v w : List ℕ) (ws : List (List ℕ)) (x : List ℕ) → Contains (v ∷ ws) x → Contains (v ∷ w ∷ ws) x
    around v w ws x h = elim (has_cases v ws x h) [ inl e ↦ (0, omega arith, e) | inr k ↦ has_more v (w ∷ ws) x (has_more w ws x k) ]

from_among : (v : List ℕ) (ws : List (List ℕ)) → Contains (v ∷ ws) (greatest_from v ws)
from_among v [] = (0, omega arith, refl)
from_among v (w ∷ ws) = greater_among v w ws (greatest_from (greater v w) ws) (compared v w) (from_among (greater v w) ws)

from_tops : (v : List ℕ) (ws : List (List ℕ)) (x : List ℕ) → AtMost v x ⊎ Contains ws x → AtMost (greatest_from v ws) x
from_tops v [] x (inl most) = most
from_tops v [] x (inr h) = absurd (omega (arith, h.1))
from_tops v (w ∷ ws) x (inl most) = from_tops (greater v w) ws x (inl (greater_keeps v w x (compared v w) refl most))
from_tops v (w ∷ ws) x (inr h) = elim (has_cases w ws x h) [
  | inl e ↦ from_tops (greater v w) ws x (inl (subst (λ y. AtMost (greater v w) y) e (greater_tops v w (compared v w) refl)))
  | inr k ↦ from_tops (greater v w) ws x (inr k)
]

pub greatest_is : (vs : List (List ℕ)) (v : List ℕ) → vs ≢ [] → v ≡ greatest vs → IsGreatest vs v
greatest_is [] v some e = absurd (some refl)
greatest_is (w ∷ ws) v some e = record {
  among = subst (λ x. Contains (w ∷ ws) x) (sym e) (from_among w ws);
  none_greater = λ x has. subst (λ y. AtMost y x) (sym e) (from_tops w ws x (elim (has_cases w ws x has) [ inl same ↦ inl (subst (λ y. AtMost w y) same (λ lt. let tied : compared w w ≡ Equal = tied_itself nat_list_cmp_total w in cc)) | inr k ↦ inr k ]));
}

sums : (slot round n place q : ℕ) → 1 ≤ round → 1 ≤ n → place + q ≡ slot + round + n - 2 → place + 2 + q ≡ slot + round + 1 * n
sums slot round n place q r m e = omega (arith, r, m, e)

pub place_is : (slot round n place : ℕ) → 1 ≤ round → 1 ≤ n → place ≡ leader_place slot round n → IsPlace slot round n place
place_is slot round n place r m e = record {
  below = subst (λ p. p < n) (sym e) (mod_below (slot + round + n - 2) n (omega (arith, m)));
  turns = (
    (slot + round + n - 2) / n,
    1,
    sums slot round n place ((slot + round + n - 2) / n * n) r m (ap (λ p. p + (slot + round + n - 2) / n * n) e ∙ mod-add-div' (slot + round + n - 2) n),
  );
}
