-- What a node owes: whatever it may vote for, accept or confirm, it has done so (this project's profile).
use Rattle.std.specs.Prelude.{◌≡◌, ◌≢◌, ◌<◌, ◌⊎◌, Bool, true, ℕ, List, [], Option, Some, None, IsSome, IsSomeAnd}
use Rattle.scp_vote.specs.scp_types.specs.declared.ballot.Ballot.{Ballot}
use Rattle.scp_vote.specs.scp_types.specs.declared.names.NodeId.{NodeId}
use Rattle.scp_vote.specs.scp_types.specs.declared.names.Hash.{Hash}
use Rattle.scp_vote.specs.scp_quorum.specs.Satisfies.{Blocks}
use Rattle.scp_vote.specs.scp_envelope.specs.declared.statement.Pledges.{Pledges}
use Rattle.scp_vote.specs.scp_envelope.specs.declared.statement.Prepare.{Prepare}
use Rattle.scp_vote.specs.scp_envelope.specs.declared.statement.Confirm.{Confirm}
use Rattle.scp_vote.specs.scp_envelope.specs.declared.statement.Pledges.TheVariants.{Prepare as Preparing, Confirm as Confirming, Externalize as Externalizing, Nominate as Nominating}
use Rattle.scp_vote.specs.declared.claim.Claim.TheVariants.{Prepared, Committed}
use Rattle.scp_vote.specs.Board.{Seen, Accepted, Confirmed}
use Rattle.scp_ballot_rules.specs.Order.{IsOver, IsAbove}

-- the ballots that a statement names
abbrev pub Names : Pledges → Ballot → Type 0
Names (Preparing p) x = (p.ballot ≡ x) ⊎ (p.prepared ≡ Some x) ⊎ (p.prepared_prime ≡ Some x)
Names (Confirming p) x = (p.ballot ≡ x) ⊎ (record { counter = p.n_prepared; value = p.ballot.value } ≡ x) ⊎ (record { counter = p.n_high; value = p.ballot.value } ≡ x)
Names (Externalizing p) x = (p.commit ≡ x) ⊎ (record { counter = p.n_high; value = p.commit.value } ≡ x)
Names (Nominating p) x = ⊥

-- A candidate ballot is one that a statement on the board names, with a counter other than 0.
pub record IsCandidate (b : Seen) (x : Ballot) : Type 0 where
  pub node : NodeId
  pub named : IsSomeAnd (b.statement node) (λ p. Names p x)
  pub counted : x.counter ≢ 0

-- n is an end of a range of commits of the value that the statement votes for or accepts
abbrev pub Bounds : Pledges → List ℕ → ℕ → Type 0
Bounds (Preparing p) v n = (p.n_commit ≢ 0) × (p.ballot.value ≡ v) × ((p.n_commit ≡ n) ⊎ (p.n_high ≡ n))
Bounds (Confirming p) v n = (p.ballot.value ≡ v) × ((p.n_commit ≡ n) ⊎ (p.n_high ≡ n))
Bounds (Externalizing p) v n = (p.commit.value ≡ v) × ((p.commit.counter ≡ n) ⊎ (p.n_high ≡ n))
Bounds (Nominating p) v n = ⊥

-- a statement on the board has n as an end of a range of commits of the value
pub record IsBoundary (b : Seen) (v : List ℕ) (n : ℕ) : Type 0 where
  pub node : NodeId
  pub bounds : IsSomeAnd (b.statement node) (λ p. Bounds p v n)
  pub counted : n ≢ 0

-- a statement's counter: that of its ballot, and of an EXTERNALIZE its nH
abbrev pub counter_in : Pledges → ℕ
counter_in (Preparing p) = p.ballot.counter
counter_in (Confirming p) = p.ballot.counter
counter_in (Externalizing p) = p.n_high
counter_in (Nominating p) = 0

-- Some other nodes whose counters are above n block the local set.
pub record AreAheadOf (b : Seen) (n : ℕ) : Type 0 where
  pub nodes : NodeId → Bool
  pub others : (v : NodeId) → nodes v ≡ true → (v ≢ b.me) × IsSomeAnd (b.statement v) (λ p. n < counter_in p)
  pub block : Blocks nodes b.local

-- The own PREPARE owes nothing on this board.
pub record IsPrepareSettled (b : Seen) (q : Prepare) : Type 0 where
  pub prepared : (x : Ballot) → IsCandidate b x → Accepted b (Prepared x) → ¬ (IsAbove x q.prepared)
  pub commit : (v : List ℕ) (n : ℕ) → IsBoundary b v n → ¬ (Accepted b (Committed n n v))
  pub confirmed : q.ballot.counter ≢ 0 → Confirmed b (Prepared q.ballot) → (q.n_high ≡ q.ballot.counter) × ((q.n_commit ≢ 0) ⊎ IsOver q.prepared q.ballot ⊎ IsOver q.prepared_prime q.ballot)
  pub counter : IsSome q.prepared → ¬ (AreAheadOf b q.ballot.counter)

-- The own CONFIRM owes nothing on this board.
pub record IsConfirmSettled (b : Seen) (q : Confirm) : Type 0 where
  pub confirmed : (n : ℕ) → IsBoundary b q.ballot.value n → ¬ (Confirmed b (Committed n n q.ballot.value))
  pub accepted : (n : ℕ) → IsBoundary b q.ballot.value n → q.n_high < n → ¬ (Accepted b (Committed n n q.ballot.value))
  pub counter : ¬ (AreAheadOf b q.ballot.counter)

-- the own statement owes nothing on this board, by its kind
abbrev pub IsSettled : Seen → Pledges → Type 0
IsSettled b (Preparing q) = IsPrepareSettled b q
IsSettled b (Confirming q) = IsConfirmSettled b q
IsSettled b (Externalizing q) = Unit {0}
IsSettled b (Nominating q) = Unit {0}

-- an absent own statement counts as a PREPARE of counter 0 that has accepted nothing
abbrev pub nothing_said : Hash → Pledges
nothing_said hash = Preparing (record { set_hash = hash; ballot = record { counter = 0; value = [] }; prepared = None; prepared_prime = None; n_commit = 0; n_high = 0 })

-- the own statement; if there is none, one that says nothing
abbrev pub own_or_nothing : Hash → Option Pledges → Pledges
own_or_nothing hash None = nothing_said hash
own_or_nothing hash (Some p) = p

-- Nothing is owed on this board.
abbrev pub OwesNothing : Hash → Seen → Type 0
OwesNothing hash b = IsSettled b (own_or_nothing hash (b.statement b.me))
