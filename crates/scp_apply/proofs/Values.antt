-- The value of a slot, and how many decisions are buffered.
use Rattle.std.proofs.Common.{◌≡◌, ◌≢◌, ℕ, ◌+◌, ◌-◌, ◌<◌, ◌≤◌, Bool, true, false, List, [], ◌∷◌, length, get_or, map, refl, sym, ◌∙◌, ap, subst, arith, nat_eq, eq-eqb, All}
use Rattle.std.specs.Prelude.{Some, None, zero, suc, ◌||◌}
use Rattle.std.specs.List.{list_any}
use Rattle.std.proofs.lemmas.Bool.{ne_eqb, eqb-true}
use Rattle.std.proofs.lemmas.List.{length-map, get_or-map}
use Rattle.std.proofs.lemmas.List.Elements.{All-head, All-tail}
use Rattle.std.proofs.lemmas.Map.Keys.{IsDistinct-from_apart}
use Rattle.std.proofs.lemmas.Map.Steps.{length-le_from_distinct_below}
use Rattle.scp_ledger.specs.declared.journal.Decision.{Decision}
use Rattle.scp_ledger.specs.Decisions.{OnePerSlot}
use Rattle.scp_apply.specs.declared.slots.Slots.{Slots}
use Rattle.scp_apply.specs.Applied.{AreInOrder, value_of}
use Rattle.scp_apply.specs.Applier.{IsLater, IsRunning}
use Rattle.scp_apply.specs.inside.Slots.{slots_view, next_in, IsSound}

pub value_before : (from slot : ℕ) (ds : List Decision) → AreInOrder from ds → slot < from → value_of slot ds ≡ None
value_before from slot [] h lt = refl
value_before from slot (d ∷ ds) h lt =
    let other : nat_eq d.slot.0 slot ≡ false = ne_eqb d.slot.0 slot (let first = h.0 in omega (arith, first, lt)) in
    rw other (value_before (from + 1) slot ds h.1 (omega (arith, lt)))

value_there : (from n : ℕ) (ds : List Decision) (d : Decision) → AreInOrder from ds → n < length ds → value_of (from + n) ds ≡ Some (get_or ds n d).value
value_there from n [] d h lt = absurd (omega arith)
value_there from zero (x ∷ xs) d h lt =
    let same : nat_eq x.slot.0 (from + zero) ≡ true = eq-eqb _ _ (let first = h.0 in omega (arith, first)) in
    rw same refl
value_there from (suc n) (x ∷ xs) d h lt =
    let other : nat_eq x.slot.0 (from + suc n) ≡ false = ne_eqb x.slot.0 (from + suc n) (let first = h.0 in omega (arith, first)) in
    let next : from + suc n ≡ from + 1 + n = omega arith in
    rw other (subst (λ (s : ℕ). value_of s xs ≡ Some (get_or xs n d).value) (sym next) (value_there (from + 1) n xs d h.1 (omega arith)))

value_behind : (from slot : ℕ) (ds : List Decision) → AreInOrder from ds → from + length ds ≤ slot → value_of slot ds ≡ None
value_behind from slot [] h le = refl
value_behind from slot (d ∷ ds) h le =
    let other : nat_eq d.slot.0 slot ≡ false = ne_eqb d.slot.0 slot (let first = h.0 in omega (arith, first, le)) in
    rw other (value_behind (from + 1) slot ds h.1 (omega (arith, le)))

pub value_found : (first slot : ℕ) (xs ds : List Decision) (d e : Decision) → xs ≡ ds → AreInOrder first ds → first ≤ slot → slot - first < length xs → ((other : Decision) → d ≡ get_or xs (slot - first) other) → e ≡ d → Some e.value ≡ value_of slot ds
value_found first slot xs ds d e same h from lt is found =
    let at : slot ≡ first + (slot - first) = omega (arith, from) in
    let short : slot - first < length ds = subst (λ (ys : List Decision). slot - first < length ys) same lt in
    let here : e ≡ get_or ds (slot - first) d = found ∙ is d ∙ ap (λ (ys : List Decision). get_or ys (slot - first) d) same in
    ap (λ (x : Decision). Some x.value) here ∙ sym (value_there first (slot - first) ds d h short) ∙ ap (λ (s : ℕ). value_of s ds) (sym at)

pub value_missing : (first slot : ℕ) (xs ds : List Decision) → xs ≡ ds → AreInOrder first ds → first ≤ slot → length xs ≤ slot - first → None ≡ value_of slot ds
value_missing first slot xs ds same h from le =
    let short : length ds ≤ slot - first = subst (λ (ys : List Decision). length ys ≤ slot - first) same le in
    sym (value_behind first slot ds h (omega (arith, short, from)))

-- ---- how many are buffered

or_rest : (a b : Bool) → a ≡ false → (a || b) ≡ true → b ≡ true
or_rest true b f e = absurd cc
or_rest false b f e = e

-- how far a slot is above the lowest one that can be buffered
abbrev ahead : ℕ → Decision → ℕ
ahead n d = d.slot.0 - (n + 1)

ahead_apart : (n : ℕ) (a b : Decision) → IsLater n a.slot.0 → IsLater n b.slot.0 → a.slot.0 ≢ b.slot.0 → nat_eq (ahead n a) (ahead n b) ≡ false
ahead_apart n a b p q ne = ne_eqb (ahead n a) (ahead n b) (λ e. ne (let above = p.later in let over = q.later in omega (arith, e, above, over)))

all_apart : (n : ℕ) (ds : List Decision) → All (λ d. IsLater n d.slot.0) ds → OnePerSlot ds → (i j e : ℕ) → i < j → j < length (map (ahead n) ds) → nat_eq (get_or (map (ahead n) ds) i e) (get_or (map (ahead n) ds) j e) ≡ false
all_apart n [] later one i j e lt within = absurd (omega arith)
all_apart n (x ∷ xs) later one i j e lt within =
    let ds = x ∷ xs in
    let short : j < length ds = omega (arith, within, length-map ds (ahead n)) in
    rw (get_or-map (ahead n) ds i x e (omega (arith, lt, short)), get_or-map (ahead n) ds j x e short) (ahead_apart n (get_or ds i x) (get_or ds j x) (later i x (omega (arith, lt, short))) (later j x short) (one i j x lt short))

below_all : (n : ℕ) (ds : List Decision) → All (λ d. IsLater n d.slot.0) ds → (q : ℕ) → list_any (nat_eq q) (map (ahead n) ds) ≡ true → q < 15
below_all n [] later q e = absurd cc
below_all n (d ∷ ds) later q e = by_test (nat_eq q (ahead n d)) refl (λ rest. below_all n ds (All-tail (λ (x : Decision). IsLater n x.slot.0) d ds later) q rest)
  where
    by_test : (b : Bool) → nat_eq q (ahead n d) ≡ b → (list_any (nat_eq q) (map (ahead n) ds) ≡ true → q < 15) → q < 15
    by_test true is rest = (let same : q ≡ ahead n d = eqb-true _ _ is in let first = All-head (λ (x : Decision). IsLater n x.slot.0) d ds later in let near = first.near in let above = first.later in omega (arith, same, near, above))
    by_test false is rest = rest (or_rest (nat_eq q (ahead n d)) (list_any (nat_eq q) (map (ahead n) ds)) is e)

few_ahead : (n : ℕ) (ds : List Decision) → All (λ d. IsLater n d.slot.0) ds → OnePerSlot ds → length ds ≤ 15
few_ahead n ds later one =
    let far = map (ahead n) ds in
    let few : length far ≤ 15 = length-le_from_distinct_below far 15 (IsDistinct-from_apart nat_eq far (all_apart n ds later one)) (below_all n ds later) in
    omega (arith, few, length-map ds (ahead n))

pub running_of : (failed : Bool) (s : Slots) → failed ≡ false → IsSound s → IsRunning (slots_view failed s)
running_of failed s runs h =
    let later : All (λ d. IsLater (next_in s) d.slot.0) s.buffer.items = λ k d lt. record {
      later = (let above = h.is_applied.above k d lt in let other = h.next_missing k d lt in omega (arith, above, other));
      near = h.is_applied.near k d lt;
    } in
    record {
      in_window = later;
      one = h.is_applied.one;
      few = (let fewer = few_ahead (next_in s) s.buffer.items later h.is_applied.one in omega (arith, fewer));
    }
