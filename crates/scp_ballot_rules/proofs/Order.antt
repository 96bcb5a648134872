-- The order of ballots.
use Rattle.std.proofs.Common.{◌≡◌, ◌≢◌, ◌≤◌, ◌<◌, ℕ, List, ◌⊎◌, inl, inr, refl, sym, ◌∙◌, ap, arith, subst}
use Rattle.std.specs.Ordering.{nat_cmp, ordering_then, ordering_reverse}
use Rattle.std.specs.declared.cmp.Ordering.{Ordering}
use Rattle.std.specs.declared.cmp.Ordering.TheVariants.{Less, Equal, Greater}
use Rattle.std.proofs.lemmas.Bool.Decides.{nat_tests}
use Rattle.std.proofs.lemmas.Cmp.{nat_list_cmp_total, tied_itself}
use Rattle.std.proofs.lemmas.Map.Lookups.{exact_bytes}
use Rattle.scp_vote.specs.scp_types.specs.declared.ballot.Ballot.{Ballot}
use Rattle.scp_vote.specs.scp_envelope.specs.Ballots.{ballot_cmp, value_cmp, IsLess, IsAtMost}
use Rattle.scp_vote.specs.scp_envelope.specs.Claims.{IsCovered}
use Rattle.scp_vote.specs.scp_envelope.proofs.Ballots.{ballot_cmp_total, at_most}
use Rattle.scp_ballot_rules.specs.Order.{AtMost, FitsUnder}

pub less_trans : (x y z : Ballot) → IsLess x y → IsLess y z → IsLess x z
less_trans x y z h k = ballot_cmp_total.trans x y z h k

pub less_irrefl : (x : Ballot) → IsLess x x → ⊥
less_irrefl x h = let e : Less ≡ Equal = sym h ∙ tied_itself ballot_cmp_total x in cc

pub less_turn : (x y : Ballot) → IsLess x y → IsLess y x → ⊥
less_turn x y h k = less_irrefl x (less_trans x y x h k)

then_equal : (o p : Ordering) → ordering_then o p ≡ Equal → (o ≡ Equal) × (p ≡ Equal)
then_equal Less p e = cc
then_equal Equal p e = (refl, e)
then_equal Greater p e = cc

nat_equal : (m n : ℕ) → nat_cmp m n ≡ Equal → m ≡ n
nat_equal m n e = grind (arith, nat_tests)

nat_less : (m n : ℕ) → nat_cmp m n ≡ Less → m < n
nat_less m n e = grind (arith, nat_tests)

equal_ballots : (x y : Ballot) → ballot_cmp x y ≡ Equal → x ≡ y
equal_ballots x y e =
    let both = then_equal (nat_cmp x.counter y.counter) (value_cmp x.value y.value) e in
    let k : x.counter ≡ y.counter = nat_equal x.counter y.counter both.0 in
    let v : x.value ≡ y.value = exact_bytes x.value y.value both.1 in
    ap (λ n. let b : Ballot = record { counter = n; value = x.value } in b) k ∙ ap (λ w. let b : Ballot = record { counter = y.counter; value = w } in b) v

three_by : (x y : Ballot) (o : Ordering) → ballot_cmp x y ≡ o → AtMost x y ⊎ IsLess y x
three_by x y Less e = inl (inr e)
three_by x y Equal e = inl (inl (equal_ballots x y e))
three_by x y Greater e = inr (ballot_cmp_total.antisymm y x ∙ ap ordering_reverse e)

pub either_way : (x y : Ballot) → AtMost x y ⊎ IsLess y x
either_way x y = three_by x y (ballot_cmp x y) refl

less_then : (o p : Ordering) → ordering_then o p ≡ Less → (o ≡ Less) ⊎ ((o ≡ Equal) × (p ≡ Less))
less_then Less p e = inl refl
less_then Equal p e = inr (refl, e)
less_then Greater p e = cc

pub less_counter : (x y : Ballot) → IsLess x y → x.counter ≤ y.counter
less_counter x y h = elim (less_then (nat_cmp x.counter y.counter) (value_cmp x.value y.value) h) [
  | inl up ↦ omega (arith, nat_less x.counter y.counter up)
  | inr same ↦ omega (arith, nat_equal x.counter y.counter same.0)
]

pub less_compatible : (x y : Ballot) → IsLess x y → x.value ≡ y.value → x.counter < y.counter
less_compatible x y h v = elim (less_then (nat_cmp x.counter y.counter) (value_cmp x.value y.value) h) [
  | inl up ↦ nat_less x.counter y.counter up
  | inr same ↦ absurd (let e : Less ≡ Equal = sym same.1 ∙ ap (value_cmp x.value) (sym v) ∙ tied_itself nat_list_cmp_total x.value in cc)
]

values_by : (v w : List ℕ) (o : Ordering) → value_cmp v w ≡ o → (v ≡ w) ⊎ (v ≢ w)
values_by v w Less e = inr (λ s. let k : Less ≡ Equal = sym e ∙ ap (value_cmp v) (sym s) ∙ tied_itself nat_list_cmp_total v in cc)
values_by v w Equal e = inl (exact_bytes v w e)
values_by v w Greater e = inr (λ s. let k : Greater ≡ Equal = sym e ∙ ap (value_cmp v) (sym s) ∙ tied_itself nat_list_cmp_total v in cc)

pub values_decided : (v w : List ℕ) → (v ≡ w) ⊎ (v ≢ w)
values_decided v w = values_by v w (value_cmp v w) refl

pub at_most_less : (x y z : Ballot) → AtMost x y → IsLess y z → IsLess x z
at_most_less x y z (inl e) h = let P : Ballot → Type 0 = λ b. IsLess b z in subst P (sym e) h
at_most_less x y z (inr l) h = less_trans x y z l h

pub less_at_most : (x y z : Ballot) → IsLess x y → AtMost y z → IsLess x z
less_at_most x y z h (inl e) = let P : Ballot → Type 0 = λ b. IsLess x b in subst P e h
less_at_most x y z h (inr l) = less_trans x y z h l

pub at_most_trans : (x y z : Ballot) → AtMost x y → AtMost y z → AtMost x z
at_most_trans x y z (inl e) h = let P : Ballot → Type 0 = λ b. AtMost b z in subst P (sym e) h
at_most_trans x y z (inr l) h = inr (less_at_most x y z l h)

pub at_most_counter : (x y : Ballot) → AtMost x y → x.counter ≤ y.counter
at_most_counter x y (inl e) = omega (arith, ap (λ (b : Ballot). b.counter) e)
at_most_counter x y (inr l) = less_counter x y l

-- a ballot that is at most another and has another value is less
pub at_most_apart : (x y : Ballot) → AtMost x y → x.value ≢ y.value → IsLess x y
at_most_apart x y (inl e) apart = absurd (apart (ap (λ (b : Ballot). b.value) e))
at_most_apart x y (inr l) apart = l

counters_at_most : (x y : Ballot) → x.counter ≤ y.counter → x.value ≡ y.value → AtMost x y
counters_at_most x y le v = elim (either_way x y) [
  | inl h ↦ h
  | inr turned ↦ absurd (omega (arith, le, less_compatible y x turned (sym v)))
]

pub covered_at_most : (x y : Ballot) → IsCovered x y → AtMost x y
covered_at_most x y c = elim (either_way x y) [
  | inl h ↦ h
  | inr turned ↦ absurd (c.at_most (ballot_cmp_total.antisymm x y ∙ ap ordering_reverse turned))
]

pub covered : (x y : Ballot) → x.counter ≤ y.counter → x.value ≡ y.value → IsCovered x y
covered x y le e = record { at_most = at_most x y le e; compatible = e }
