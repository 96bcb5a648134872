-- Which of two statements of one node and slot is newer (this project's profile).
use Rattle.std.specs.Prelude.{◌≡◌, ◌⊎◌, ℕ, List, All, Contains}
use Rattle.std.specs.Option.{option_cmp}
use Rattle.std.specs.Ordering.{nat_cmp, ordering_then}
use Rattle.std.specs.declared.cmp.Ordering.{Ordering}
use Rattle.std.specs.declared.cmp.Ordering.TheVariants.{Less}
use Rattle.scp_envelope.specs.declared.statement.Prepare.{Prepare}
use Rattle.scp_envelope.specs.declared.statement.Confirm.{Confirm}
use Rattle.scp_envelope.specs.declared.statement.Nominate.{Nominate}
use Rattle.scp_envelope.specs.declared.statement.Statement.{Statement}
use Rattle.scp_envelope.specs.declared.statement.Pledges.{Pledges}
use Rattle.scp_envelope.specs.declared.statement.Pledges.TheVariants.{Prepare as Preparing, Confirm as Confirming, Externalize as Externalizing, Nominate as Nominating}
use Rattle.scp_envelope.specs.Ballots.{ballot_cmp}

-- PREPAREs are compared by ballot, then prepared, then preparedPrime, then nH; an absent ballot is less than any ballot
abbrev pub prepare_cmp : Prepare → Prepare → Ordering
prepare_cmp p q = ordering_then (ballot_cmp p.ballot q.ballot) (ordering_then (option_cmp ballot_cmp p.prepared q.prepared) (ordering_then (option_cmp ballot_cmp p.prepared_prime q.prepared_prime) (nat_cmp p.n_high q.n_high)))

-- CONFIRMs are compared by ballot, then nPrepared, then nH
abbrev pub confirm_cmp : Confirm → Confirm → Ordering
confirm_cmp p q = ordering_then (ballot_cmp p.ballot q.ballot) (ordering_then (nat_cmp p.n_prepared q.n_prepared) (nat_cmp p.n_high q.n_high))

-- a list contains another if it has each value of it
unfoldable pub ContainsAll : List (List ℕ) → List (List ℕ) → Type 0
ContainsAll new old = All (λ v. Contains new v) old

-- a NOMINATE is newer if both its lists contain the old ones and at least one is larger, so that the old one doesn't contain it
pub record IsNewerNominate (old new : Nominate) : Type 0 where
  pub votes : ContainsAll new.votes old.votes
  pub accepted : ContainsAll new.accepted old.accepted
  pub larger : (¬ (ContainsAll old.votes new.votes)) ⊎ (¬ (ContainsAll old.accepted new.accepted))

-- A ballot statement of a later kind is newer; within PREPARE and within CONFIRM, the greater one is. No EXTERNALIZE is
-- newer than another. Ballot statements and nominations aren't compared.
abbrev pub ArePledgesNewer : Pledges → Pledges → Type 0
ArePledgesNewer (Preparing old) (Preparing new) = prepare_cmp old new ≡ Less
ArePledgesNewer (Preparing old) (Confirming new) = Unit {0}
ArePledgesNewer (Preparing old) (Externalizing new) = Unit {0}
ArePledgesNewer (Preparing old) (Nominating new) = ⊥
ArePledgesNewer (Confirming old) (Preparing new) = ⊥
ArePledgesNewer (Confirming old) (Confirming new) = confirm_cmp old new ≡ Less
ArePledgesNewer (Confirming old) (Externalizing new) = Unit {0}
ArePledgesNewer (Confirming old) (Nominating new) = ⊥
ArePledgesNewer (Externalizing old) (Preparing new) = ⊥
ArePledgesNewer (Externalizing old) (Confirming new) = ⊥
ArePledgesNewer (Externalizing old) (Externalizing new) = ⊥
ArePledgesNewer (Externalizing old) (Nominating new) = ⊥
ArePledgesNewer (Nominating old) (Preparing new) = ⊥
ArePledgesNewer (Nominating old) (Confirming new) = ⊥
ArePledgesNewer (Nominating old) (Externalizing new) = ⊥
ArePledgesNewer (Nominating old) (Nominating new) = IsNewerNominate old new

-- the statement is of the same node and slot, and its pledges are newer
pub record IsNewer (old new : Statement) : Type 0 where
  pub same_node : old.node ≡ new.node
  pub same_slot : old.slot ≡ new.slot
  pub newer : ArePledgesNewer old.pledges new.pledges
