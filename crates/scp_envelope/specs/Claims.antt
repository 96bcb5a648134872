-- Which claims the pledges of a statement vote for and accept (the SCP draft, in this project's profile).
use Rattle.std.specs.Prelude.{◌≡◌, ◌≢◌, ◌≤◌, ◌⊎◌, ℕ, List, IsSomeAnd, Contains}
use Rattle.scp_xdr.specs.scp_types.specs.declared.ballot.Ballot.{Ballot}
use Rattle.scp_envelope.specs.declared.statement.Pledges.{Pledges}
use Rattle.scp_envelope.specs.declared.statement.Pledges.TheVariants.{Prepare, Confirm, Externalize, Nominate}
use Rattle.scp_envelope.specs.Ballots.{IsAtMost, IsCompatible}

-- a ballot is covered by another if it is less than or equal to it and compatible with it
pub record IsCovered (b top : Ballot) : Type 0 where
  pub at_most : IsAtMost b top
  pub compatible : IsCompatible b top

-- PREPARE votes to prepare every ballot that its ballot covers; CONFIRM votes for prepare(n, its ballot's value) for every n.
abbrev pub VotesPrepare : Pledges → Ballot → Type 0
VotesPrepare (Prepare p) b = IsCovered b p.ballot
VotesPrepare (Confirm p) b = b.value ≡ p.ballot.value
VotesPrepare (Externalize p) b = ⊥
VotesPrepare (Nominate p) b = ⊥

-- PREPARE accepts as prepared every ballot that prepared or preparedPrime covers. CONFIRM accepts prepare(n,
-- its ballot's value) for n <= nPrepared; EXTERNALIZE accepts prepare(n, its commit's value) for every n.
abbrev pub AcceptsPrepare : Pledges → Ballot → Type 0
AcceptsPrepare (Prepare p) b = IsSomeAnd p.prepared (λ top. IsCovered b top) ⊎ IsSomeAnd p.prepared_prime (λ top. IsCovered b top)
AcceptsPrepare (Confirm p) b = (b.value ≡ p.ballot.value) × (b.counter ≤ p.n_prepared)
AcceptsPrepare (Externalize p) b = b.value ≡ p.commit.value
AcceptsPrepare (Nominate p) b = ⊥

-- If nC isn't 0, PREPARE votes for commit(n, its ballot's value) for nC <= n <= nH. CONFIRM votes for commit(n, its
-- ballot's value) for every n >= nCommit.
abbrev pub VotesCommit : Pledges → ℕ → List ℕ → Type 0
VotesCommit (Prepare p) n v = (p.n_commit ≢ 0) × (v ≡ p.ballot.value) × (p.n_commit ≤ n) × (n ≤ p.n_high)
VotesCommit (Confirm p) n v = (v ≡ p.ballot.value) × (p.n_commit ≤ n)
VotesCommit (Externalize p) n v = ⊥
VotesCommit (Nominate p) n v = ⊥

-- CONFIRM accepts commit(n, its ballot's value) for nCommit <= n <= nH. EXTERNALIZE accepts commit(n, its commit's
-- value) for every n >= its commit's counter.
abbrev pub AcceptsCommit : Pledges → ℕ → List ℕ → Type 0
AcceptsCommit (Prepare p) n v = ⊥
AcceptsCommit (Confirm p) n v = (v ≡ p.ballot.value) × (p.n_commit ≤ n) × (n ≤ p.n_high)
AcceptsCommit (Externalize p) n v = (v ≡ p.commit.value) × (p.commit.counter ≤ n)
AcceptsCommit (Nominate p) n v = ⊥

-- NOMINATE votes for each value in votes.
abbrev pub VotesValue : Pledges → List ℕ → Type 0
VotesValue (Prepare p) v = ⊥
VotesValue (Confirm p) v = ⊥
VotesValue (Externalize p) v = ⊥
VotesValue (Nominate p) v = Contains p.votes v

-- NOMINATE accepts each value in accepted.
abbrev pub AcceptsValue : Pledges → List ℕ → Type 0
AcceptsValue (Prepare p) v = ⊥
AcceptsValue (Confirm p) v = ⊥
AcceptsValue (Externalize p) v = ⊥
AcceptsValue (Nominate p) v = Contains p.accepted v
