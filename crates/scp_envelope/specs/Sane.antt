-- Which statements are sane (this project's profile).
use Rattle.std.specs.Prelude.{◌≡◌, ◌≢◌, ◌<◌, ◌≤◌, ◌⊎◌, [], Option, Some, None, IsSomeAnd}
use Rattle.std.specs.List.Sorted.{IsStrictlySortedBy}
use Rattle.scp_xdr.specs.scp_types.specs.declared.ballot.Ballot.{Ballot}
use Rattle.scp_envelope.specs.declared.statement.Prepare.{Prepare}
use Rattle.scp_envelope.specs.declared.statement.Confirm.{Confirm}
use Rattle.scp_envelope.specs.declared.statement.Externalize.{Externalize}
use Rattle.scp_envelope.specs.declared.statement.Nominate.{Nominate}
use Rattle.scp_envelope.specs.declared.statement.Pledges.{Pledges}
use Rattle.scp_envelope.specs.declared.statement.Pledges.TheVariants.{Prepare as Preparing, Confirm as Confirming, Externalize as Externalizing, Nominate as Nominating}
use Rattle.scp_envelope.specs.Ballots.{value_cmp, IsLess, IsCompatible}

-- if both are there, preparedPrime is less than prepared and incompatible with it
abbrev pub AreApart : Option Ballot → Option Ballot → Type 0
AreApart (Some prepared) (Some prime) = IsLess prime prepared × (¬ (IsCompatible prime prepared))
AreApart (Some prepared) None = Unit {0}
AreApart None prime = Unit {0}

-- PREPARE: the ballot's counter is above 0; prepared and preparedPrime are apart; nH is 0, or prepared is there and nH
-- is at most its counter; nC is 0, or nH isn't 0 and nC <= nH <= the ballot's counter.
pub record IsSanePrepare (p : Prepare) : Type 0 where
  pub counted : 0 < p.ballot.counter
  pub apart : AreApart p.prepared p.prepared_prime
  pub high : (p.n_high ≡ 0) ⊎ IsSomeAnd p.prepared (λ prepared. p.n_high ≤ prepared.counter)
  pub commit : (p.n_commit ≡ 0) ⊎ ((p.n_high ≢ 0) × (p.n_commit ≤ p.n_high) × (p.n_high ≤ p.ballot.counter))

-- CONFIRM: the ballot's counter is above 0, nH is at most the ballot's counter, and nCommit at most nH.
pub record IsSaneConfirm (p : Confirm) : Type 0 where
  pub counted : 0 < p.ballot.counter
  pub high : p.n_high ≤ p.ballot.counter
  pub commit : p.n_commit ≤ p.n_high

-- EXTERNALIZE: the commit's counter is above 0, and nH is at least that counter.
pub record IsSaneExternalize (p : Externalize) : Type 0 where
  pub counted : 0 < p.commit.counter
  pub high : p.commit.counter ≤ p.n_high

-- NOMINATE: not both lists are empty, and each is strictly ascending by bytes.
pub record IsSaneNominate (p : Nominate) : Type 0 where
  pub some : ¬ ((p.votes ≡ []) × (p.accepted ≡ []))
  pub votes_ascend : IsStrictlySortedBy value_cmp p.votes
  pub accepted_ascend : IsStrictlySortedBy value_cmp p.accepted

-- each kind of statement has its own rule
abbrev pub IsSane : Pledges → Type 0
IsSane (Preparing p) = IsSanePrepare p
IsSane (Confirming p) = IsSaneConfirm p
IsSane (Externalizing p) = IsSaneExternalize p
IsSane (Nominating p) = IsSaneNominate p
