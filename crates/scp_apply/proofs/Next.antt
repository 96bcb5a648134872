-- The next decision of a ledger, at an applier that took those before it.
use Rattle.std.proofs.Common.{◌≡◌, ℕ, ◌+◌, ◌<◌, ◌≤◌, Bool, true, false, List, [], ◌∷◌, ◌++◌, inl, inr, length, refl, sym, ◌∙◌, ap, arith, nat_eq, eq-eqb}
use Rattle.std.specs.Prelude.{◌||◌}
use Rattle.std.specs.List.Sorted.{IsPermutation}
use Rattle.std.proofs.lemmas.Bool.{cases_lt, ne_eqb}
use Rattle.std.proofs.lemmas.List.Elements.{All-weaker}
use Rattle.std.proofs.lemmas.List.Folds.{list_any-append, list_any_none}
use Rattle.std.proofs.lemmas.List.Sorted.{list_any-IsPermutation}
use Rattle.scp_ledger.specs.declared.journal.Decision.{Decision}
use Rattle.scp_ledger.specs.Decisions.{is_at, is_decided, IsLowest, IsNext}
use Rattle.scp_apply.specs.Applied.{AreInOrder}
use Rattle.scp_apply.specs.Applier.{ApplierView, next_of, IsApplier, IsRunning, IsLater, IsInWindow}

or_true : (b : Bool) → (b || true) ≡ true
or_true true = refl
or_true false = refl

or_right : (a b : Bool) → (a || b) ≡ false → b ≡ false
or_right true b e = absurd cc
or_right false b e = e

two_ways : (b : Bool) → b ≡ true → b ≡ false → ⊥
two_ways true p q = cc
two_ways false p q = cc

in_order_has : (start : ℕ) (ds : List Decision) (slot : ℕ) → AreInOrder start ds → start ≤ slot → slot < start + length ds → is_decided slot ds ≡ true
in_order_has start [] slot h from below = absurd (omega arith)
in_order_has start (d ∷ ds) slot h from below =
    elim (cases_lt start slot) [
      | inl lt ↦ (let rest = in_order_has (start + 1) ds slot h.1 (omega arith) (omega arith) in rw rest (or_true (nat_eq d.slot.0 slot)))
      | inr le ↦ (let same : nat_eq d.slot.0 slot ≡ true = eq-eqb d.slot.0 slot (omega (arith, h.0)) in rw same refl)
    ]

in_order_not : (start : ℕ) (ds : List Decision) (slot : ℕ) → AreInOrder start ds → start + length ds ≤ slot → is_decided slot ds ≡ false
in_order_not start [] slot h above = refl
in_order_not start (d ∷ ds) slot h above =
    let other : nat_eq d.slot.0 slot ≡ false = ne_eqb d.slot.0 slot (omega (arith, h.0)) in
    rw (other, in_order_not (start + 1) ds slot h.1 (omega arith)) refl

by_parts : (earlier : List Decision) (v : ApplierView) (slot : ℕ) → IsPermutation earlier (v.applied ++ v.buffer) → is_decided slot earlier ≡ (is_decided slot v.applied || is_decided slot v.buffer)
by_parts earlier v slot h = list_any-IsPermutation (is_at slot) earlier (v.applied ++ v.buffer) h ∙ list_any-append (is_at slot) v.applied v.buffer

other_slot : (n : ℕ) (d : Decision) → IsLater n d.slot.0 → is_at n d ≡ false
other_slot n d h = ne_eqb d.slot.0 n (let later = h.later in omega (arith, later))

lowest_is : (v : ApplierView) (earlier : List Decision) → IsApplier v → IsRunning v → IsPermutation earlier (v.applied ++ v.buffer) → IsLowest v.first earlier (next_of v)
lowest_is v earlier a r h = record {
  from_first = omega arith;
  decided = λ slot one below. by_parts earlier v slot h ∙ ap (λ b. b || is_decided slot v.buffer) (in_order_has v.first v.applied slot a.in_order one (omega arith));
  undecided =
      let next = next_of v in
      by_parts earlier v next h ∙ ap (λ b. b || is_decided next v.buffer) (in_order_not v.first v.applied next a.in_order (omega arith))
      ∙ list_any_none (is_at next) v.buffer (All-weaker (λ (d : Decision). IsLater (next_of v) d.slot.0) (λ (d : Decision). is_at next d ≡ false) (λ d later. other_slot (next_of v) d later) v.buffer r.in_window);
}

lowest_unique : (first : ℕ) (ds : List Decision) (a b : ℕ) → IsLowest first ds a → IsLowest first ds b → a ≡ b
lowest_unique first ds a b h k =
    elim (cases_lt a b) [
      | inl lt ↦ absurd (two_ways (is_decided a ds) (k.decided a h.from_first lt) h.undecided)
      | inr le ↦ elim (cases_lt b a) [
        | inl lt ↦ absurd (two_ways (is_decided b ds) (h.decided b k.from_first lt) k.undecided)
        | inr ge ↦ omega arith
      ]
    ]

pub next_can_be_taken : (v : ApplierView) (earlier : List Decision) (d : Decision) → IsApplier v → IsRunning v → IsPermutation earlier (v.applied ++ v.buffer) → IsNext v.first earlier d → IsInWindow v d.slot.0
next_can_be_taken v earlier d a r h next =
    let same : next.lowest ≡ next_of v = lowest_unique v.first earlier next.lowest (next_of v) next.is_lowest (lowest_is v earlier a r h) in
    let from = next.from in
    let near = next.near in
    record {
      from = omega (arith, same, from);
      near = omega (arith, same, near);
      fresh = or_right (is_decided d.slot.0 v.applied) (is_decided d.slot.0 v.buffer) (sym (by_parts earlier v d.slot.0 h) ∙ next.undecided);
    }
