-- Newer is an order.
use Rattle.std.proofs.Common.{◌≡◌, ◌∙◌}
use Rattle.std.specs.Cmp.{IsTotalOrder}
use Rattle.std.specs.Cmp.Lexicographic.{options_total}
use Rattle.std.specs.declared.cmp.Ordering.{Ordering}
use Rattle.std.specs.declared.cmp.Ordering.TheVariants.{Less}
use Rattle.std.proofs.lemmas.Cmp.{on_total, then_total, nat_cmp_total, tied_itself}
use Rattle.scp_envelope.specs.declared.statement.Prepare.{Prepare}
use Rattle.scp_envelope.specs.declared.statement.Confirm.{Confirm}
use Rattle.scp_envelope.specs.declared.statement.Pledges.{Pledges}
use Rattle.scp_envelope.specs.declared.statement.Pledges.TheVariants.{Prepare as Preparing, Confirm as Confirming, Externalize as Externalizing, Nominate as Nominating}
use Rattle.scp_envelope.specs.Newer.{prepare_cmp, confirm_cmp, ArePledgesNewer}
use Rattle.scp_envelope.specs.Laws.{NewerIsIrreflexive, NewerIsTransitive, NewerIsAsymmetric}
use Rattle.scp_envelope.proofs.Ballots.{ballot_cmp_total}
use Rattle.scp_envelope.proofs.Growing.{newer_nominate-irreflexive, newer_nominate-trans}

prepare_cmp_total : IsTotalOrder prepare_cmp
prepare_cmp_total =
    then_total (on_total (λ (p : Prepare). p.ballot) ballot_cmp_total) (
    then_total (on_total (λ (p : Prepare). p.prepared) (options_total ballot_cmp_total)) (
    then_total (on_total (λ (p : Prepare). p.prepared_prime) (options_total ballot_cmp_total)) (on_total (λ (p : Prepare). p.n_high) nat_cmp_total)))

confirm_cmp_total : IsTotalOrder confirm_cmp
confirm_cmp_total =
    then_total (on_total (λ (p : Confirm). p.ballot) ballot_cmp_total) (
    then_total (on_total (λ (p : Confirm). p.n_prepared) nat_cmp_total) (on_total (λ (p : Confirm). p.n_high) nat_cmp_total))

not_itself : {K : Type 0} {R : K → K → Ordering} → IsTotalOrder R → (x : K) → R x x ≡ Less → ⊥
not_itself o x h = let e = tied_itself o x in cc

pledges-irreflexive : (p : Pledges) → ArePledgesNewer p p → ⊥
pledges-irreflexive (Preparing p) h = not_itself prepare_cmp_total p h
pledges-irreflexive (Confirming p) h = not_itself confirm_cmp_total p h
pledges-irreflexive (Externalizing p) h = h
pledges-irreflexive (Nominating p) h = newer_nominate-irreflexive p h

pledges-trans : (p q r : Pledges) → ArePledgesNewer p q → ArePledgesNewer q r → ArePledgesNewer p r
pledges-trans (Preparing p) (Preparing q) (Preparing r) h k = prepare_cmp_total.trans p q r h k
pledges-trans (Preparing p) (Preparing q) (Confirming r) h k = tt
pledges-trans (Preparing p) (Preparing q) (Externalizing r) h k = tt
pledges-trans (Preparing p) (Preparing q) (Nominating r) h k = k
pledges-trans (Preparing p) (Confirming q) (Preparing r) h k = absurd k
pledges-trans (Preparing p) (Confirming q) (Confirming r) h k = tt
pledges-trans (Preparing p) (Confirming q) (Externalizing r) h k = tt
pledges-trans (Preparing p) (Confirming q) (Nominating r) h k = k
pledges-trans (Preparing p) (Externalizing q) (Preparing r) h k = absurd k
pledges-trans (Preparing p) (Externalizing q) (Confirming r) h k = tt
pledges-trans (Preparing p) (Externalizing q) (Externalizing r) h k = tt
pledges-trans (Preparing p) (Externalizing q) (Nominating r) h k = k
pledges-trans (Preparing p) (Nominating q) r h k = absurd h
pledges-trans (Confirming p) (Preparing q) r h k = absurd h
pledges-trans (Confirming p) (Confirming q) (Preparing r) h k = k
pledges-trans (Confirming p) (Confirming q) (Confirming r) h k = confirm_cmp_total.trans p q r h k
pledges-trans (Confirming p) (Confirming q) (Externalizing r) h k = tt
pledges-trans (Confirming p) (Confirming q) (Nominating r) h k = k
pledges-trans (Confirming p) (Externalizing q) (Preparing r) h k = k
pledges-trans (Confirming p) (Externalizing q) (Confirming r) h k = absurd k
pledges-trans (Confirming p) (Externalizing q) (Externalizing r) h k = tt
pledges-trans (Confirming p) (Externalizing q) (Nominating r) h k = k
pledges-trans (Confirming p) (Nominating q) r h k = absurd h
pledges-trans (Externalizing p) (Preparing q) r h k = absurd h
pledges-trans (Externalizing p) (Confirming q) r h k = absurd h
pledges-trans (Externalizing p) (Externalizing q) r h k = absurd h
pledges-trans (Externalizing p) (Nominating q) r h k = absurd h
pledges-trans (Nominating p) (Preparing q) r h k = absurd h
pledges-trans (Nominating p) (Confirming q) r h k = absurd h
pledges-trans (Nominating p) (Externalizing q) r h k = absurd h
pledges-trans (Nominating p) (Nominating q) (Preparing r) h k = k
pledges-trans (Nominating p) (Nominating q) (Confirming r) h k = k
pledges-trans (Nominating p) (Nominating q) (Externalizing r) h k = k
pledges-trans (Nominating p) (Nominating q) (Nominating r) h k = newer_nominate-trans p q r h k

pub irreflexive : NewerIsIrreflexive
irreflexive s h = pledges-irreflexive s.pledges h.newer

pub transitive : NewerIsTransitive
transitive s t u h k = record {
  same_node = h.same_node ∙ k.same_node;
  same_slot = h.same_slot ∙ k.same_slot;
  newer = pledges-trans s.pledges t.pledges u.pledges h.newer k.newer;
}

pub asymmetric : NewerIsAsymmetric
asymmetric s t h k = irreflexive s (transitive s t s h k)
