-- The order of ballots.
use Rattle.std.proofs.Common.{◌≡◌, ◌≢◌, ◌≤◌, ◌↔◌, IsTrue, Bool, ℕ, List, arith, refl}
use Rattle.std.specs.Cmp.{IsTotalOrder}
use Rattle.std.specs.Ordering.{nat_cmp, ordering_then}
use Rattle.std.specs.declared.cmp.Ordering.{Ordering}
use Rattle.std.specs.declared.cmp.Ordering.TheVariants.{Less, Equal, Greater}
use Rattle.std.proofs.lemmas.Bool.Decides.{nat_tests}
use Rattle.std.proofs.lemmas.Cmp.{on_total, then_total, nat_cmp_total, nat_list_cmp_total, tied_itself}
use Rattle.scp_xdr.specs.scp_types.specs.declared.ballot.Ballot.{Ballot}
use Rattle.scp_envelope.specs.Ballots.{ballot_cmp, value_cmp, IsAtMost}
use Rattle.scp_envelope.specs.Claims.{IsCovered}

pub ballot_cmp_total : IsTotalOrder ballot_cmp
ballot_cmp_total = then_total (on_total (λ (b : Ballot). b.counter) nat_cmp_total) (on_total (λ (b : Ballot). b.value) nat_list_cmp_total)

not_above : (m n : ℕ) → m ≤ n → nat_cmp m n ≢ Greater
not_above m n h = grind (arith, nat_tests)

not_above-then : (o p : Ordering) → o ≢ Greater → p ≡ Equal → ordering_then o p ≢ Greater
not_above-then Less p ne e h = cc
not_above-then Equal p ne e h = cc
not_above-then Greater p ne e h = ne refl

equal_values : (v w : List ℕ) → v ≡ w → value_cmp v w ≡ Equal
equal_values v w e = rw e (tied_itself nat_list_cmp_total w)

pub at_most : (b top : Ballot) → b.counter ≤ top.counter → b.value ≡ top.value → IsAtMost b top
at_most b top le e = not_above-then _ _ (not_above b.counter top.counter le) (equal_values b.value top.value e)

-- an equal value and a counter that is no greater make a covered ballot
covered : (b top : Ballot) → b.counter ≤ top.counter → b.value ≡ top.value → IsCovered b top
covered b top le e = record { at_most = at_most b top le e; compatible = e }

pub covered_decided : (b top : Ballot) (r : Bool) → b.counter ≤ top.counter → (IsTrue r ↔ (b.value ≡ top.value)) → (IsTrue r ↔ IsCovered b top)
covered_decided b top r le h = (λ t. covered b top le (h.0 t), λ k. h.1 k.compatible)
