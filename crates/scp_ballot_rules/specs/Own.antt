-- The own statement of a state.
use Rattle.std.specs.Prelude.{◌≡◌, ℕ, ◌⊎◌, [], Option, Some, None}
use Rattle.scp_vote.specs.scp_types.specs.declared.ballot.Ballot.{Ballot}
use Rattle.scp_vote.specs.scp_types.specs.declared.names.Hash.{Hash}
use Rattle.scp_vote.specs.scp_envelope.specs.declared.statement.Pledges.{Pledges}
use Rattle.scp_vote.specs.scp_envelope.specs.declared.statement.Pledges.TheVariants.{Prepare as Preparing, Confirm as Confirming, Externalize as Externalizing}
use Rattle.scp_vote.specs.scp_envelope.specs.declared.statement.Prepare.{Prepare}
use Rattle.scp_vote.specs.scp_envelope.specs.declared.statement.Confirm.{Confirm}
use Rattle.scp_vote.specs.scp_envelope.specs.declared.statement.Externalize.{Externalize}
use Rattle.scp_ballot_rules.specs.declared.state.State.{State}
use Rattle.scp_ballot_rules.specs.declared.state.Phase.{Phase}
use Rattle.scp_ballot_rules.specs.declared.state.Phase.TheVariants.{Prepare as InPrepare, Confirm as InConfirm, Externalize as InExternalize}

-- a ballot's counter; 0 if there is no ballot
abbrev pub counter_of : Option Ballot → ℕ
counter_of None = 0
counter_of (Some x) = x.counter

-- an absent ballot has counter 0 and no bytes
abbrev pub or_zero : Option Ballot → Ballot
or_zero None = record { counter = 0; value = [] }
or_zero (Some x) = x

-- The PREPARE of the state. By the protocol, an nH other than 0 says that the ballot with this counter is confirmed as prepared. What is
-- licensed demands that only if nC isn't 0 either.
abbrev pub prepare_of : Hash → State → Prepare
prepare_of hash s = record { set_hash = hash; ballot = or_zero s.present; prepared = s.prepared; prepared_prime = s.prime; n_commit = counter_of s.low; n_high = counter_of s.high }

-- what a node says in the phase Confirm
abbrev pub confirm_of : Hash → State → Confirm
confirm_of hash s = record { ballot = or_zero s.present; n_prepared = counter_of s.prepared; n_commit = counter_of s.low; n_high = counter_of s.high; set_hash = hash }

-- what a node says in the phase Externalize
abbrev pub externalize_of : Hash → State → Externalize
externalize_of hash s = record { commit = or_zero s.low; n_high = counter_of s.high; set_hash = hash }

-- what the node says, by its phase
abbrev pub own_in : Phase → Hash → State → Pledges
own_in InPrepare hash s = Preparing (prepare_of hash s)
own_in InConfirm hash s = Confirming (confirm_of hash s)
own_in InExternalize hash s = Externalizing (externalize_of hash s)

-- the own statement of the state
abbrev pub own_of : Hash → State → Pledges
own_of hash s = own_in s.phase hash s

-- nothing was said yet: the state before any input, apart from a composite (this project's profile)
pub record IsBlank (s : State) : Type 0 where
  pub phase : s.phase ≡ InPrepare
  pub present : s.present ≡ None
  pub prepared : s.prepared ≡ None
  pub prime : s.prime ≡ None
  pub confirmed : s.confirmed ≡ None
  pub high : s.high ≡ None
  pub low : s.low ≡ None

-- The own statement on the board is that of the state; or there is none, and nothing was said yet.
abbrev pub StandsFor : Option Pledges → Hash → State → Type 0
StandsFor own hash s = (own ≡ Some (own_of hash s)) ⊎ ((own ≡ None) × IsBlank s)
