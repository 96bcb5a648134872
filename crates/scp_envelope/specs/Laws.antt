-- What follows from the definitions.
use Rattle.std.specs.Prelude.{◌≡◌, ◌<◌, ◌↔◌, ℕ, List, length}
use Rattle.std.specs.List.Sorted.{IsStrictlySortedBy}
use Rattle.scp_xdr.specs.scp_types.specs.declared.ballot.Ballot.{Ballot}
use Rattle.scp_envelope.specs.declared.statement.Confirm.{Confirm}
use Rattle.scp_envelope.specs.declared.statement.Externalize.{Externalize}
use Rattle.scp_envelope.specs.declared.statement.Statement.{Statement}
use Rattle.scp_envelope.specs.declared.statement.Pledges.{Pledges}
use Rattle.scp_envelope.specs.declared.statement.Pledges.TheVariants.{Confirm as Confirming, Externalize as Externalizing}
use Rattle.scp_envelope.specs.Claims.{IsCovered, AcceptsPrepare, AcceptsCommit}
use Rattle.scp_envelope.specs.Ballots.{value_cmp}
use Rattle.scp_envelope.specs.Newer.{ContainsAll, IsNewer}

-- no statement is newer than itself
abbrev pub NewerIsIrreflexive : Type 0
NewerIsIrreflexive = (s : Statement) → ¬ (IsNewer s s)

-- what is newer than a newer one is newer
abbrev pub NewerIsTransitive : Type 0
NewerIsTransitive = (s t u : Statement) → IsNewer s t → IsNewer t u → IsNewer s u

-- no two statements are newer than each other
abbrev pub NewerIsAsymmetric : Type 0
NewerIsAsymmetric = (s t : Statement) → IsNewer s t → ¬ (IsNewer t s)

-- of ascending lists, one that contains another is larger, so that the other doesn't contain it, exactly where it is longer
abbrev pub LargerIsLonger : Type 0
LargerIsLonger = (old new : List (List ℕ)) → IsStrictlySortedBy value_cmp old → IsStrictlySortedBy value_cmp new → ContainsAll new old → (¬ (ContainsAll old new)) ↔ (length old < length new)

-- what is accepted as prepared is also accepted under a smaller or equal compatible ballot
abbrev pub AcceptedPreparedGoesDown : Type 0
AcceptedPreparedGoesDown = (p : Pledges) (b below : Ballot) → AcceptsPrepare p b → IsCovered below b → AcceptsPrepare p below

-- the EXTERNALIZE has the value of the CONFIRM, and its counter is nCommit
pub record Externalizes (e : Externalize) (c : Confirm) : Type 0 where
  pub counter : e.commit.counter ≡ c.n_commit
  pub value : e.commit.value ≡ c.ballot.value

-- such an EXTERNALIZE accepts as prepared what the CONFIRM accepts as prepared
abbrev pub ExternalizeAcceptsPrepared : Type 0
ExternalizeAcceptsPrepared = (e : Externalize) (c : Confirm) (b : Ballot) → Externalizes e c → AcceptsPrepare (Confirming c) b → AcceptsPrepare (Externalizing e) b

-- such an EXTERNALIZE accepts as committed what the CONFIRM accepts as committed
abbrev pub ExternalizeAcceptsCommitted : Type 0
ExternalizeAcceptsCommitted = (e : Externalize) (c : Confirm) (n : ℕ) (v : List ℕ) → Externalizes e c → AcceptsCommit (Confirming c) n v → AcceptsCommit (Externalizing e) n v
