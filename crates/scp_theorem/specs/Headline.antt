-- The headline: what becomes of what is sent to a node, over plain lists.
use Rattle.std.specs.Prelude.{ℕ, ◌+◌, ◌≡◌, false, Bool, List, [], ◌∷◌, ◌++◌, Option, Some, nat_eq, slice_get, map, flat_map, filter, option_to_list, All, Contains, IsSomeAnd, IfSome}
use Rattle.std.specs.List.{AllByRecursion, range_with_len}
use Rattle.std.specs.List.Sorted.{IsPermutation}
use Rattle.scp_outbox.specs.scp_types.specs.declared.names.ConnId.{ConnId}
use Rattle.scp_outbox.specs.scp_types.specs.declared.names.Hash.{Hash}
use Rattle.scp_outbox.specs.scp_types.specs.declared.names.NodeId.{NodeId}
use Rattle.scp_outbox.specs.scp_quorum.specs.QuorumTree.{QuorumTree}
use Rattle.scp_outbox.specs.scp_quorum.specs.QuorumKind.{set_hash}
use Rattle.scp_outbox.specs.scp_quorum.specs.SharedSet.{SharedSet}
use Rattle.scp_apply.specs.scp_vote.specs.declared.claim.StatementKind.TheVariants.{Balloting}
use Rattle.scp_outbox.specs.scp_wire.specs.declared.link.Cause.{Cause}
use Rattle.scp_outbox.specs.scp_wire.specs.declared.link.Cause.TheVariants.{ParkedFull}
use Rattle.scp_outbox.specs.scp_wire.specs.declared.message.Message.{Message}
use Rattle.scp_outbox.specs.scp_wire.specs.declared.message.Message.TheVariants.{Record}
use Rattle.scp_outbox.specs.scp_wire.specs.Connections.{conn_at}
use Rattle.scp_outbox.specs.scp_wire.specs.Lanes.{slot_of, slots_of, in_lane}
use Rattle.scp_outbox.specs.scp_wire.specs.Marks.{Mark, number, ended, IsWhole}
use Rattle.scp_outbox.specs.scp_wire.specs.Sent.{numbers}
use Rattle.scp_apply.specs.scp_pending.specs.Queues.{named}
use Rattle.scp_apply.specs.scp_ledger.specs.declared.journal.Decision.{Decision}
use Rattle.scp_apply.specs.scp_ledger.specs.declared.journal.Fate.{Fate}
use Rattle.scp_apply.specs.scp_ledger.specs.declared.journal.Fate.TheVariants.{Taken, Dropped, Closed}
use Rattle.scp_apply.specs.scp_ledger.specs.declared.journal.Origin.{Origin}
use Rattle.scp_apply.specs.scp_ledger.specs.declared.journal.Origin.TheVariants.{Machine, Named}
use Rattle.scp_apply.specs.scp_ledger.specs.declared.journal.Verdict.TheVariants.{Decided}
use Rattle.scp_apply.specs.scp_ledger.specs.Certificate.{IsCertificate}
use Rattle.scp_apply.specs.scp_ledger.specs.Decisions.{OnePerSlot}
use Rattle.scp_apply.specs.scp_ledger.specs.Journal.{newest}
use Rattle.scp_apply.specs.scp_ledger.specs.Marks.{marks_of}
use Rattle.scp_apply.specs.Applied.{AreInOrder, made_of}
use Rattle.scp_theorem.specs.Fates.{Fates, conn_of, IsOfLink}

-- a message that waits for a quorum set, or behind one that does, with its number on its connection
pub record Waiter : Type 0 where
  pub place : ℕ
  pub message : Message

-- what was sent to a node, what it holds, and what it shows
pub record Books : Type 0 where
  pub me : NodeId
  pub set : QuorumTree  -- its own quorum set
  pub peers : List NodeId  -- the node at the other end of each link
  -- the carried messages that were sent over a link on a connection, in order; and why the connection ended, if it did
  pub messages : ℕ → ConnId → List Message
  pub end : ℕ → ConnId → Option Cause
  -- what the node holds of them without a fate, in order: what has left the queue where messages wait, that queue, and what isn't in it yet
  pub ahead : ConnId → List Mark
  pub waiting : ConnId → List Waiter
  pub behind : ℕ → ConnId → List Mark
  -- whether it has a quorum set of this hash
  pub has_set : Hash → Bool
  -- the slot that it began with; the fate of each message; the decisions; and those of them that are applied
  pub first : ℕ
  pub journal : List Fate
  pub decisions : List Decision
  pub applied : List Decision

-- ---- one connection

-- all that was sent on the connection: the numbers of its messages, from 0 on, and then its end
abbrev pub line_of : Books → ℕ → ConnId → List Mark
line_of b l c = numbers 0 (b.messages l c) ++ map ended (option_to_list (b.end l c))

-- all that is held of the connection
abbrev pub held_of : Books → ℕ → ConnId → List Mark
held_of b l c = b.ahead c ++ (map (λ w. number w.place) (b.waiting c) ++ b.behind l c)

-- what has left the queue where the connection's messages wait: what has its fate, and what is on the way to it
abbrev pub left_of : Books → ConnId → List Mark
left_of b c = marks_of c b.journal ++ b.ahead c

-- the number that a mark has; an end has none
abbrev pub number_in : Mark → List ℕ
number_in (number n) = n ∷ []
number_in (ended cause) = []

-- the numbers that marks have, in order
abbrev pub numbers_in : List Mark → List ℕ
numbers_in marks = flat_map number_in marks

-- in some order they are all numbers from 0 to a last one, each once
abbrev pub AreAllUpTo : List ℕ → Type 0
AreAllUpTo ns = (last : ℕ) × IsPermutation (range_with_len 0 (last + 1)) ns

-- Its messages have at most one fate each: within each slot from the first on, in the order sent, none after its end, each the message of its
-- number. In each slot the fates, followed by what is held, are what was sent, so nothing is lost. If the connection was cut off, what is
-- before the cut is a beginning of that, and no message that came before the cut is missing.
pub record HasFates (b : Books) (l : ℕ) (c : ConnId) : Type 0 where
  pub fates : Fates c (b.messages l c) b.journal
  pub nothing_lost : (s : ℕ) → IsWhole (in_lane (slots_of (b.messages l c)) s (line_of b l c)) (in_lane (slots_of (b.messages l c)) s (marks_of c b.journal ++ held_of b l c))
  pub none_missing : Contains (left_of b c) (ended ParkedFull) → AreAllUpTo (numbers_in (left_of b c))

-- a taken envelope has a quorum set with the hash that it names
abbrev pub HasNamedSet : Fate → Type 0
HasNamedSet (Taken conn seq message set verdict) = IfSome (named message) (λ hash. IsSomeAnd set (λ s. hash.0 ≡ set_hash s.value))
HasNamedSet (Dropped conn seq cause) = Unit {0}
HasNamedSet (Closed conn cause) = Unit {0}

-- ---- what waits

-- what waits and names this slot, in order
abbrev pub of_slot : ℕ → List Waiter → List Waiter
of_slot s waiters = filter (λ w. nat_eq (slot_of w.message) s) waiters

-- the message is an envelope that names a quorum set which the node lacks
abbrev pub LacksItsSet : (Hash → Bool) → Message → Type 0
LacksItsSet has_set message = IsSomeAnd (named message) (λ hash. has_set hash ≡ false)

-- ---- decisions

-- The decision rests on a quorum at this node; the last fresh ballot statements of its other members in the journal accept the commit. Or it
-- rests on a record of it that was taken, and decided.
abbrev pub RestsOn : Books → Decision → Origin → Type 0
RestsOn b d (Machine n quorum own) = IsCertificate b.me b.set (λ v. newest d.slot.0 Balloting v b.journal) d.value n quorum
RestsOn b d (Named conn seq) = (beside : Option SharedSet) × Contains b.journal (Taken conn seq (Record d.slot d.value) beside Decided)

-- ---- the headline

-- Each message that was sent has at most one fate, in the order of its slot, and none is lost. What is decided is applied, in the order of the
-- slots.
pub record Headline (b : Books) : Type 0 where
  -- each link's connections: their messages have at most one fate each, in order, and nothing is lost; nothing else has a fate
  pub fates : (l : ℕ) → (peer : NodeId) → slice_get b.peers l ≡ Some peer → (life : ℕ) → HasFates b l (conn_at peer b.me life)
  pub no_others : AllByRecursion (λ fate. IsOfLink b.me b.peers (conn_of fate)) b.journal
  -- each taken envelope has the quorum set that its hash names
  pub sets : All HasNamedSet b.journal
  -- what waits in a slot is led by an envelope of that slot whose quorum set the node lacks, so one that never comes delays no other slot
  pub delays_none : (c : ConnId) (s : ℕ) (first : Waiter) (rest : List Waiter) → of_slot s (b.waiting c) ≡ first ∷ rest → LacksItsSet b.has_set first.message
  -- each slot has at most one decision, and each decision rests on a quorum or on a taken record
  pub one_decision : OnePerSlot b.decisions
  pub grounds : All (λ d. RestsOn b d d.origin) b.decisions
  -- the slots from the first on are applied, once each and in order, each with its decision
  pub in_order : AreInOrder b.first b.applied
  pub decided : All (Contains b.decisions) b.applied

-- The headline, and the state that is read, if one is: it is what the application makes of the applied values, one after another, from the state
-- on with which the node began.
pub record HeadlineWithState {S : Type 0} (start : S) (after' : S → List ℕ → S) (b : Books) (state : Option S) : Type 0 where
  pub headline : Headline b
  pub state_is : IfSome state (λ s. s ≡ made_of start after' b.applied)
