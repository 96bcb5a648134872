-- A balloter as its contracts see it (the SCP draft, in this project's profile).
use Rattle.std.specs.Prelude.{◌≡◌, ◌≢◌, ◌<◌, ◌≤◌, ◌↔◌, ◌⊎◌, ℕ, List, [], Bool, false, Option, Some, None, IsSome, IsSomeAnd, cond}
use Rattle.std.specs.Option.{ForSome}
use Rattle.std.specs.BTreeMap.{is_at}
use Rattle.scp_ballot_rules.specs.scp_types.specs.declared.ballot.Ballot.{Ballot}
use Rattle.scp_ballot_rules.specs.scp_types.specs.declared.names.NodeId.{NodeId}
use Rattle.scp_ballot_rules.specs.scp_types.specs.declared.names.Hash.{Hash}
use Rattle.scp_ballot_rules.specs.scp_quorum.specs.NodeSet.{node_cmp, is_in}
use Rattle.scp_ballot_rules.specs.scp_quorum.specs.QuorumTree.{QuorumTree}
use Rattle.scp_ballot_rules.specs.scp_quorum.specs.QuorumKind.{set_spelling}
use Rattle.sha2.specs.Sha256.{sha256}
use Rattle.scp_ballot_rules.specs.scp_envelope.specs.Kinds.{set_hash_of}
use Rattle.scp_ballot_rules.specs.scp_envelope.specs.Newer.{ArePledgesNewer}
use Rattle.scp_ballot_rules.specs.scp_envelope.specs.Sane.{IsSane}
use Rattle.scp_ballot_rules.specs.scp_envelope.specs.declared.statement.Pledges.{Pledges}
use Rattle.scp_ballot_rules.specs.scp_envelope.specs.declared.statement.Pledges.TheVariants.{Prepare as Preparing, Confirm as Confirming, Externalize as Externalizing, Nominate as Nominating}
use Rattle.scp_ballot_rules.specs.scp_envelope.specs.declared.statement.Envelope.{Envelope}
use Rattle.scp_ballot_rules.specs.scp_vote.specs.declared.claim.StatementKind.TheVariants.{Balloting}
use Rattle.scp_ballot_rules.specs.scp_vote.specs.declared.claim.Claim.TheVariants.{Committed}
use Rattle.scp_ballot_rules.specs.scp_vote.specs.Board.{Seen, Certificate, KeepsOwn, kind_of_pledges, counted_of_other}
use Rattle.scp_ballot_rules.specs.scp_vote.specs.Licence.{Licensed, IsExternalize}
use Rattle.scp_ballot_rules.specs.declared.state.State.{State}
use Rattle.scp_ballot_rules.specs.Owed.{OwesNothing, AreAheadOf}
use Rattle.scp_ballot_rules.specs.Told.{ballots_on}
use Rattle.scp_ballot.specs.View.{BalloterView}
use Rattle.scp_ballot.specs.declared.balloted.Balloted.{Balloted}
use Rattle.scp_ballot.specs.declared.balloted.Certified.{Certified}

-- What a balloter knows: its slot, its set's hash, what it sees of ballots, the state of its own ones, the composite that is
-- kept, the statement emitted last, and whether it failed.
pub record Ballots : Type 0 where
  pub slot : ℕ
  pub hash : Hash
  pub board : Seen
  pub state : State
  pub composite : Option (List ℕ)
  pub emitted : Option Pledges
  pub failed : Bool

-- what contracts see of the ballots
abbrev pub ballots : BalloterView → Ballots
ballots v = record { slot = v.slot; hash = v.hash; board = ballots_on v.board; state = v.state; composite = v.composite; emitted = v.emitted; failed = v.failed }

-- the own ballot statement on the board
abbrev pub own : Ballots → Option Pledges
own b = b.board.statement b.board.me

-- the own statement is an EXTERNALIZE
abbrev pub IsDecided : Ballots → Type 0
IsDecided b = IsSomeAnd (own b) IsExternalize

-- the statement is a ballot statement, but no PREPARE with counter 0
abbrev pub HasCounter : Pledges → Type 0
HasCounter (Preparing p) = p.ballot.counter ≢ 0
HasCounter (Confirming p) = Unit {0}
HasCounter (Externalizing p) = Unit {0}
HasCounter (Nominating p) = ⊥

-- there is an own statement with a ballot
abbrev pub HasBallot : Ballots → Type 0
HasBallot b = IsSomeAnd (own b) HasCounter

-- An own statement as it is given: a ballot statement of this node and slot, the one on the board, with the local set's hash
-- and no signature.
pub record IsOwnEnvelope (b : Ballots) (e : Envelope) : Type 0 where
  pub node : e.statement.node ≡ b.board.me
  pub slot : e.statement.slot.0 ≡ b.slot
  pub kind : kind_of_pledges e.statement.pledges ≡ Balloting
  pub stands : own b ≡ Some e.statement.pledges
  pub hash : set_hash_of e.statement.pledges ≡ b.hash
  pub unsigned : e.signature ≡ []

-- there is a statement now, it is sane, and it is newer than the last one emitted, if there was one
abbrev pub IsWorthTelling : Option Pledges → Option Pledges → Type 0
IsWorthTelling last now = IsSomeAnd now (λ q. IsSane q × ForSome last (λ p. ArePledgesNewer p q))

-- the last statement emitted, after this one, if there is this one
abbrev pub last_emitted : Option Envelope → Option Pledges → Option Pledges
last_emitted None last = last
last_emitted (Some e) last = Some e.statement.pledges

-- the own EXTERNALIZE has this value and counter
abbrev pub Externalizes : Pledges → Certified → Type 0
Externalizes (Preparing p) d = ⊥
Externalizes (Confirming p) d = ⊥
Externalizes (Externalizing p) d = (p.commit.value ≡ d.value) × (p.n_high ≡ d.n)
Externalizes (Nominating p) d = ⊥

-- A decision as it is given: the own EXTERNALIZE, and the certificate of Committed(n, n, value) on the board.
pub record IsCertified (b : Ballots) (d : Certified) : Type 0 where
  pub quorum : Certificate b.board (Committed d.n d.n d.value) (is_in d.quorum)
  pub own : IsOwnEnvelope b d.own
  pub externalizes : Externalizes d.own.statement.pledges d

-- The slot, the hash, this node and its set are as before.
pub record KeepsMaking (old new : Ballots) : Type 0 where
  pub slot : new.slot ≡ old.slot
  pub hash : new.hash ≡ old.hash
  pub me : new.board.me ≡ old.board.me
  pub local : new.board.local ≡ old.board.local

-- The second statement is no step back from the first: to no earlier kind, and within PREPARE and within CONFIRM to no smaller
-- counter.
abbrev pub GoesOn : Pledges → Pledges → Type 0
GoesOn (Preparing p) (Preparing q) = p.ballot.counter ≤ q.ballot.counter
GoesOn (Confirming p) (Preparing q) = ⊥
GoesOn (Confirming p) (Confirming q) = p.ballot.counter ≤ q.ballot.counter
GoesOn (Externalizing p) (Preparing q) = ⊥
GoesOn (Externalizing p) (Confirming q) = ⊥
GoesOn p q = Unit {0}

-- the ballot of the own PREPARE; if nothing was said, counter 0 and no bytes
abbrev pub HasPresent : Option Pledges → Ballot → Type 0
HasPresent None x = x ≡ record { counter = 0; value = [] }
HasPresent (Some (Preparing p)) x = x ≡ p.ballot
HasPresent (Some (Confirming p)) x = ⊥
HasPresent (Some (Externalizing p)) x = ⊥
HasPresent (Some (Nominating p)) x = ⊥

-- A PREPARE has the ballot of the one before; or a ballot of its value is confirmed as prepared (nH isn't 0); or it has the
-- composite's value, if there is a composite.
abbrev pub KeepsValue : Option Pledges → Option (List ℕ) → Pledges → Type 0
KeepsValue before composite (Preparing q) = HasPresent before q.ballot ⊎ (q.n_high ≢ 0) ⊎ ForSome composite (λ z. q.ballot.value ≡ z)
KeepsValue before composite (Confirming q) = Unit {0}
KeepsValue before composite (Externalizing q) = Unit {0}
KeepsValue before composite (Nominating q) = Unit {0}

-- What an input gives. The own statement is licensed by the one before it, with the others' part of the board as it is after the
-- input, and is no step back. A new ballot of a PREPARE has the composite's value, unless one is confirmed as prepared. Nothing
-- is owed, unless there is more. A statement is emitted exactly where it is worth telling. A decision is given exactly where the
-- own statement becomes an EXTERNALIZE, which then stays.
pub record Advances (old new : Ballots) (given : Balloted) : Type 0 where
  pub licensed : Licensed new.board (own old) (own new)
  pub rises : ForSome (own old) (λ p. ForSome (own new) (λ q. GoesOn p q))
  pub value : ForSome (own new) (λ q. KeepsValue (own old) new.composite q)
  pub owed : given.more ≡ false → OwesNothing new.hash new.board
  pub emitted : IsSome given.statement ↔ IsWorthTelling old.emitted (own new)
  pub statement : ForSome given.statement (λ e. IsOwnEnvelope new e)
  pub last : new.emitted ≡ last_emitted given.statement old.emitted
  pub decided : IsSome given.decided ↔ ((IsDecided old → ⊥) × IsDecided new)
  pub stays : IsDecided old → IsDecided new
  pub ended : IsDecided old → own new ≡ own old
  pub certified : ForSome given.decided (λ d. IsCertified new d)
  pub making : KeepsMaking old new
  pub counted : KeepsOwn new.board

-- it is a PREPARE
abbrev pub IsPrepare : Pledges → Type 0
IsPrepare (Preparing p) = Unit {0}
IsPrepare (Confirming p) = ⊥
IsPrepare (Externalizing p) = ⊥
IsPrepare (Nominating p) = ⊥

-- The value becomes the composite while the own statement is a PREPARE or nothing was said; after that the composite stays.
abbrev pub TakesValue : List ℕ → Ballots → Ballots → Type 0
TakesValue value old new = (ForSome (own old) IsPrepare × (new.composite ≡ Some value)) ⊎ ((ForSome (own old) IsPrepare → ⊥) × (new.composite ≡ old.composite))

-- A PREPARE has the ballot (1, value); or a ballot of its value is confirmed as prepared (nH isn't 0); or the others were ahead
-- of counter 1, and its ballot has this value.
abbrev pub IsFirst : List ℕ → Seen → Pledges → Type 0
IsFirst value b (Preparing q) = (q.ballot ≡ record { counter = 1; value = value }) ⊎ (q.n_high ≢ 0) ⊎ (AreAheadOf b 1 × (q.ballot.value ≡ value))
IsFirst value b (Confirming q) = Unit {0}
IsFirst value b (Externalizing q) = Unit {0}
IsFirst value b (Nominating q) = Unit {0}

-- If there was no ballot, the first one is made of the value.
abbrev pub MakesFirst : List ℕ → Ballots → Ballots → Type 0
MakesFirst value old new = (HasBallot old → ⊥) → ForSome (own new) (λ q. IsFirst value old.board q)

-- The other nodes have the same statements and sets as before.
pub record KeepsOthers (old new : Seen) : Type 0 where
  pub statements : (v : NodeId) → v ≢ old.me → new.statement v ≡ old.statement v
  pub sets : (v : NodeId) → v ≢ old.me → new.counted v ≡ old.counted v

-- Among the other nodes, this one has the given statement and set, and all others are as before.
pub record Hears (old new : Seen) (node : NodeId) (statement : Pledges) (set : QuorumTree) : Type 0 where
  pub statements : (v : NodeId) → v ≢ old.me → new.statement v ≡ cond (is_at (node_cmp node) v) (Some statement) (old.statement v)
  pub sets : (v : NodeId) → v ≢ old.me → new.counted v ≡ cond (is_at (node_cmp node) v) (Some set) (old.counted v)

-- another node's ballot statement of this slot, while the own statement is no EXTERNALIZE
abbrev pub IsHeard : Ballots → Envelope → Type 0
IsHeard b e = (e.statement.node ≢ b.board.me) × (e.statement.slot.0 ≡ b.slot) × (kind_of_pledges e.statement.pledges ≡ Balloting) × (IsDecided b → ⊥)

-- such a statement replaces its node's last one; any other statement leaves the others' part as it is
abbrev pub HearsOnly : Ballots → Ballots → Envelope → QuorumTree → Type 0
HearsOnly old new e delivered =
    (IsHeard old e × Hears old.board new.board e.statement.node e.statement.pledges (counted_of_other e.statement.node e.statement.pledges delivered))
    ⊎ ((IsHeard old e → ⊥) × KeepsOthers old.board new.board)

-- within PREPARE and within CONFIRM the counter is raised, if it was neither 0 nor the greatest
abbrev pub IsRaised : Pledges → Pledges → Type 0
IsRaised (Preparing p) (Preparing q) = p.ballot.counter ≢ 0 → p.ballot.counter ≢ 4294967295 → p.ballot.counter < q.ballot.counter
IsRaised (Confirming p) (Confirming q) = p.ballot.counter ≢ 0 → p.ballot.counter ≢ 4294967295 → p.ballot.counter < q.ballot.counter
IsRaised p q = Unit {0}

-- so it is from the old own statement to the new one
abbrev pub RaisesCounter : Ballots → Ballots → Type 0
RaisesCounter old new = ForSome (own old) (λ p. ForSome (own new) (λ q. IsRaised p q))

-- A balloter that has heard and said nothing.
pub record Begins (node : NodeId) (number : ℕ) (set : QuorumTree) (b : Ballots) : Type 0 where
  pub me : b.board.me ≡ node
  pub local : b.board.local ≡ set
  pub statements : (v : NodeId) → b.board.statement v ≡ None
  pub sets : (v : NodeId) → b.board.counted v ≡ None
  pub slot : b.slot ≡ number
  pub hash : b.hash.0 ≡ sha256 (set_spelling set)
  pub composite : b.composite ≡ None
  pub emitted : b.emitted ≡ None
  pub failed : b.failed ≡ false
