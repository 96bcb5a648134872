-- What a node may say next (the SCP draft, in this project's profile).
use Rattle.std.specs.Prelude.{◌≡◌, ◌≢◌, cond, ◌⊎◌, ℕ, List, [], ◌∷◌, Option, Some, None, IsSomeAnd}
use Rattle.std.specs.Option.{option_map}
use Rattle.std.specs.BTreeMap.{is_at}
use Rattle.scp_quorum.specs.NodeSet.{node_cmp}
use Rattle.scp_quorum.specs.scp_types.specs.declared.ballot.Ballot.{Ballot}
use Rattle.scp_envelope.specs.declared.statement.Pledges.{Pledges}
use Rattle.scp_envelope.specs.declared.statement.Prepare.{Prepare}
use Rattle.scp_envelope.specs.declared.statement.Pledges.TheVariants.{Prepare as Preparing, Confirm as Confirming, Externalize as Externalizing, Nominate as Nominating}
use Rattle.scp_envelope.specs.Claims.{AcceptsPrepare, AcceptsValue}
use Rattle.scp_vote.specs.declared.claim.Claim.TheVariants.{Prepared, Committed, Nominated}
use Rattle.scp_vote.specs.Claims.{AcceptsCommits}
use Rattle.scp_vote.specs.Board.{Seen, Accepted, Confirmed}

-- the board with p as this node's statement
abbrev pub with_own : Seen → Option Pledges → Seen
with_own b p = record {
  me = b.me;
  local = b.local;
  statement = λ v. cond (is_at (node_cmp b.me) v) p (b.statement v);
  counted = λ v. cond (is_at (node_cmp b.me) v) (option_map (λ _. b.local) p) (b.counted v);
}

-- the ballots that a statement names as accepted as prepared
abbrev pub NamesPrepared : Pledges → Ballot → Type 0
NamesPrepared (Preparing q) x = (q.prepared ≡ Some x) ⊎ (q.prepared_prime ≡ Some x)
NamesPrepared (Confirming q) x = (q.n_prepared ≢ 0) × (x ≡ record { counter = q.n_prepared; value = q.ballot.value })
NamesPrepared (Externalizing q) x = ⊥
NamesPrepared (Nominating q) x = ⊥

-- the ballot at the high end of the commits that a PREPARE votes for
abbrev pub high_end : Prepare → Ballot
high_end q = record { counter = q.n_high; value = q.ballot.value }

-- p is a PREPARE that votes to commit, with q's value and high end
abbrev pub KeepsVote : Option Pledges → Prepare → Type 0
KeepsVote None q = ⊥
KeepsVote (Some (Preparing p)) q = (p.n_commit ≢ 0) × (p.n_high ≡ q.n_high) × (p.ballot.value ≡ q.ballot.value)
KeepsVote (Some (Confirming p)) q = ⊥
KeepsVote (Some (Externalizing p)) q = ⊥
KeepsVote (Some (Nominating p)) q = ⊥

-- A PREPARE that votes to commit accepts its high end as prepared. That ballot is confirmed as prepared, or p already voted for it.
abbrev pub VotesWell : Seen → Option Pledges → Pledges → Type 0
VotesWell b p (Preparing q) = q.n_commit ≢ 0 → AcceptsPrepare (Preparing q) (high_end q) × (Confirmed b (Prepared (high_end q)) ⊎ KeepsVote p q)
VotesWell b p (Confirming q) = Unit {0}
VotesWell b p (Externalizing q) = Unit {0}
VotesWell b p (Nominating q) = Unit {0}

-- What a CONFIRM accepts as committed was accepted before, or is accepted on this board.
abbrev pub AcceptsWell : Seen → Option Pledges → Pledges → Type 0
AcceptsWell b p (Preparing q) = Unit {0}
AcceptsWell b p (Confirming q) = IsSomeAnd p (λ p. AcceptsCommits p q.n_commit q.n_high q.ballot.value) ⊎ Accepted b (Committed q.n_commit q.n_high q.ballot.value)
AcceptsWell b p (Externalizing q) = Unit {0}
AcceptsWell b p (Nominating q) = Unit {0}

-- it is an EXTERNALIZE
abbrev pub IsExternalize : Pledges → Type 0
IsExternalize (Preparing p) = ⊥
IsExternalize (Confirming p) = ⊥
IsExternalize (Externalizing p) = Unit {0}
IsExternalize (Nominating p) = ⊥

-- An EXTERNALIZE follows an EXTERNALIZE, or all its commits up to nH are confirmed.
abbrev pub ExternalizesWell : Seen → Option Pledges → Pledges → Type 0
ExternalizesWell b p (Preparing q) = Unit {0}
ExternalizesWell b p (Confirming q) = Unit {0}
ExternalizesWell b p (Externalizing q) = IsSomeAnd p IsExternalize ⊎ Confirmed b (Committed q.commit.counter q.n_high q.commit.value)
ExternalizesWell b p (Nominating q) = Unit {0}

-- The statement q may follow p, which may be absent, on a board that has p as this node's statement.
pub record Follows (b : Seen) (p : Option Pledges) (q : Pledges) : Type 0 where
  pub values : (v : List ℕ) → AcceptsValue q v → IsSomeAnd p (λ p. AcceptsValue p v) ⊎ Accepted b (Nominated v)
  pub prepared : (x : Ballot) → NamesPrepared q x → IsSomeAnd p (λ p. AcceptsPrepare p x) ⊎ Accepted b (Prepared x)
  pub votes : VotesWell b p q
  pub accepts : AcceptsWell b p q
  pub externalizes : ExternalizesWell b p q

-- the same, on the board that has p in this node's place and the others as given
abbrev pub MayFollow : Seen → Option Pledges → Pledges → Type 0
MayFollow others p q = Follows (with_own others p) p q

-- each of the statements may follow the one before it, from the first to the last
abbrev pub Leads : Seen → Option Pledges → List Pledges → Option Pledges → Type 0
Leads others p [] last = p ≡ last
Leads others p (q ∷ qs) last = MayFollow others p q × Leads others (Some q) qs last

-- There is a list of own statements from the old one to the new one, and each may follow the one before it.
abbrev pub Licensed : Seen → Option Pledges → Option Pledges → Type 0
Licensed others old new = (between : List Pledges) × Leads others old between new
