-- The value of a slot, where what is applied stands in the order of the slots.
use Rattle.std.proofs.Common.{◌≡◌, ℕ, ◌+◌, ◌-◌, ◌<◌, ◌≤◌, true, false, List, [], ◌∷◌, length, get_or, refl, sym, ◌∙◌, ap, subst, arith, nat_eq, eq-eqb}
use Rattle.std.specs.Prelude.{Some, None, zero, suc}
use Rattle.std.proofs.lemmas.Bool.{ne_eqb}
use Rattle.scp_line.specs.scp_ledger.specs.declared.journal.Decision.{Decision}
use Rattle.scp_line.specs.scp_apply.specs.Applied.{AreInOrder, value_of}

value_there : (from n : ℕ) (ds : List Decision) (d : Decision) → AreInOrder from ds → n < length ds → value_of (from + n) ds ≡ Some (get_or ds n d).value
value_there from n [] d h lt = absurd (omega arith)
value_there from zero (x ∷ xs) d h lt =
    let same : nat_eq x.slot.0 (from + zero) ≡ true = eq-eqb _ _ (let first = h.0 in omega (arith, first)) in
    rw same refl
value_there from (suc n) (x ∷ xs) d h lt =
    let other : nat_eq x.slot.0 (from + suc n) ≡ false = ne_eqb x.slot.0 (from + suc n) (let first = h.0 in omega (arith, first)) in
    let next : from + suc n ≡ from + 1 + n = omega arith in
    rw other (subst (λ (s : ℕ). value_of s xs ≡ Some (get_or xs n d).value) (sym next) (value_there (from + 1) n xs d h.1 (omega arith)))

value_behind : (from slot : ℕ) (ds : List Decision) → AreInOrder from ds → from + length ds ≤ slot → value_of slot ds ≡ None
value_behind from slot [] h le = refl
value_behind from slot (d ∷ ds) h le =
    let other : nat_eq d.slot.0 slot ≡ false = ne_eqb d.slot.0 slot (let first = h.0 in omega (arith, first, le)) in
    rw other (value_behind (from + 1) slot ds h.1 (omega (arith, le)))

pub value_found : (slot : ℕ) (xs ds : List Decision) (d e : Decision) → xs ≡ ds → AreInOrder 1 ds → (slot ≡ 0 → ⊥) → slot - 1 < length xs → ((other : Decision) → d ≡ get_or xs (slot - 1) other) → e ≡ d → Some e.value ≡ value_of slot ds
value_found slot xs ds d e same h some lt is found =
    let at : slot ≡ 1 + (slot - 1) = omega (arith, some) in
    let short : slot - 1 < length ds = subst (λ (ys : List Decision). slot - 1 < length ys) same lt in
    let here : e ≡ get_or ds (slot - 1) d = found ∙ is d ∙ ap (λ (ys : List Decision). get_or ys (slot - 1) d) same in
    ap (λ (x : Decision). Some x.value) here ∙ sym (value_there 1 (slot - 1) ds d h short) ∙ ap (λ (s : ℕ). value_of s ds) (sym at)

pub value_missing : (slot : ℕ) (xs ds : List Decision) → xs ≡ ds → AreInOrder 1 ds → (slot ≡ 0 → ⊥) → length xs ≤ slot - 1 → None ≡ value_of slot ds
value_missing slot xs ds same h some le =
    let short : length ds ≤ slot - 1 = subst (λ (ys : List Decision). length ys ≤ slot - 1) same le in
    sym (value_behind 1 slot ds h (omega (arith, short, some)))
