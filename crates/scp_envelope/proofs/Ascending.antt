-- Values of which each is below the next.
use Rattle.std.proofs.Common.{◌≡◌, ◌+◌, ◌↔◌, Bool, true, false, List, ℕ, [], arith, refl, IsTrue}
use Rattle.std.specs.List.{IsAllAdjacentAnswer}
use Rattle.std.specs.List.Sorted.{IsStrictlySortedBy}
use Rattle.std.specs.Ordering.{is_lt}
use Rattle.std.specs.declared.cmp.Ordering.{Ordering}
use Rattle.std.specs.declared.cmp.Ordering.TheVariants.{Less, Equal, Greater}
use Rattle.std.proofs.lemmas.Cmp.{nat_list_cmp_total}
use Rattle.std.proofs.lemmas.Map.Keys.{sorted_from_all_adjacent, Less-from_sorted}
use Rattle.scp_envelope.specs.Ballots.{value_cmp}
use Rattle.scp_xdr.proofs.Answered.{shown, refuted}

less : (o : Ordering) → true ≡ is_lt o → o ≡ Less
less Less e = refl
less Equal e = cc
less Greater e = cc

not_less : (o : Ordering) → false ≡ is_lt o → o ≡ Less → ⊥
not_less Less e f = let g : false ≡ true = e in cc
not_less Equal e f = cc
not_less Greater e f = cc

pub ascending_decided : (vs : List (List ℕ)) (b : Bool) → IsAllAdjacentAnswer (λ x y b. b ≡ is_lt (value_cmp x y)) vs b → IsTrue b ↔ IsStrictlySortedBy value_cmp vs
ascending_decided vs true h = shown (sorted_from_all_adjacent nat_list_cmp_total vs [] (λ k lt. less _ (h k [] lt)))
ascending_decided vs false h = refuted (λ up. not_less _ (h.2 []) (Less-from_sorted value_cmp vs h.0 (h.0 + 1) [] up (omega arith) h.1))
