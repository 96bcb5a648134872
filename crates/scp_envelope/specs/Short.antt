-- Short envelopes, which surely keep the limits of their kind and fit a link (this project's profile).
use Rattle.std.specs.Prelude.{◌≤◌, ℕ, List, length, Contains}
use Rattle.std.specs.Option.{ForSome}
use Rattle.scp_xdr.specs.scp_types.specs.declared.limits.TheConstants.{VALUE_LIMIT}
use Rattle.scp_envelope.specs.declared.codec.TheConstants.{SIGNATURE_LIMIT}
use Rattle.scp_envelope.specs.declared.statement.Pledges.{Pledges}
use Rattle.scp_envelope.specs.declared.statement.Pledges.TheVariants.{Prepare, Confirm, Externalize, Nominate}
use Rattle.scp_envelope.specs.declared.statement.Envelope.{Envelope}

-- a value has at most 4,096 bytes
abbrev pub IsShortValue : List ℕ → Type 0
IsShortValue v = length v ≤ VALUE_LIMIT

-- P holds of each value in a statement
abbrev pub SaysOnly : (List ℕ → Type 0) → Pledges → Type 0
SaysOnly P (Prepare p) = P p.ballot.value × ForSome p.prepared (λ x. P x.value) × ForSome p.prepared_prime (λ x. P x.value)
SaysOnly P (Confirm p) = P p.ballot.value
SaysOnly P (Externalize p) = P p.commit.value
SaysOnly P (Nominate p) = ((v : List ℕ) → Contains p.votes v → P v) × ((v : List ℕ) → Contains p.accepted v → P v)

-- a nomination's lists have at most seven values each, as those of own statements have
abbrev pub HasShortLists : Pledges → Type 0
HasShortLists (Prepare p) = Unit {0}
HasShortLists (Confirm p) = Unit {0}
HasShortLists (Externalize p) = Unit {0}
HasShortLists (Nominate p) = (length p.votes ≤ 7) × (length p.accepted ≤ 7)

-- Its values have at most 4,096 bytes each, its lists at most seven values, and its signature at most 64 bytes.
pub record IsShort (e : Envelope) : Type 0 where
  pub values : SaysOnly IsShortValue e.statement.pledges
  pub lists : HasShortLists e.statement.pledges
  pub signature : length e.signature ≤ SIGNATURE_LIMIT
