-- What follows if every worker of a node ended well.
use Rattle.std.specs.Prelude.{◌≡◌, ℕ, Bool, true, false, List, [], ◌++◌, Some, IfSome, slice_get, filter}
use Rattle.std.specs.List.{AllByRecursion}
use Rattle.scp_workers.specs.scp_driver.specs.Driver.{Says}
use Rattle.scp_workers.specs.scp_types.specs.declared.limits.TheConstants.{CARRIED_LIMIT}
use Rattle.scp_workers.specs.scp_types.specs.declared.names.ConnId.{ConnId}
use Rattle.scp_workers.specs.scp_types.specs.declared.names.NodeId.{NodeId}
use Rattle.scp_workers.specs.scp_quorum.specs.QuorumTree.{QuorumTree}
use Rattle.scp_workers.specs.scp_wire.specs.declared.carried.Carried.{Carried}
use Rattle.scp_workers.specs.scp_wire.specs.declared.message.Message.{Message}
use Rattle.scp_workers.specs.scp_wire.specs.declared.link.Inbound.{Inbound}
use Rattle.scp_workers.specs.scp_wire.specs.declared.link.Inbound.TheVariants as inbound
use Rattle.scp_workers.specs.scp_wire.specs.Connections.{conn_at, same_conn}
use Rattle.scp_workers.specs.scp_wire.specs.Lanes.{in_lane, EndsLast}
use Rattle.scp_workers.specs.scp_wire.specs.LinkReading.{unread, readings}
use Rattle.scp_workers.specs.scp_wire.specs.Marks.{IsWhole}
use Rattle.scp_workers.specs.scp_wire.specs.Sent.{sent, carried_of}
use Rattle.scp_workers.specs.scp_wire.specs.Shape.{HasShape, of_peer}
use Rattle.scp_workers.specs.scp_pending.specs.Causes.{IsSettledBy}
use Rattle.scp_workers.specs.scp_pending.specs.Messages.{AreParked, marks_of_messages}
use Rattle.scp_workers.specs.scp_pending.specs.Rules.{fresh}
use Rattle.scp_workers.specs.scp_ledger.specs.Marks.{marks_of as marks_on}
use Rattle.scp_workers.specs.scp_theorem.specs.Account.{Account}
use Rattle.scp_workers.specs.scp_theorem.specs.Fates.{IsOfLink}
use Rattle.scp_workers.specs.scp_theorem.specs.Kept.{KeepsLedger, slots_sent, line_sent}
use Rattle.scp_workers.specs.scp_ends.specs.Ends.{Sender, Receiver, IsQueued, heard}
use Rattle.scp_workers.specs.scp_ends.specs.Links.{LinkEnd}
use Rattle.scp_workers.specs.scp_ends.specs.Order.{of, values}
use Rattle.scp_workers.specs.Reading.{ReaderEnd}
use Rattle.scp_gather.specs.Left.{Left, sent_over}
use Rattle.scp_gather.specs.Node.{IsNode, EndWell}

-- ---- the node, with nothing in a queue or a hand

module _ {D : Type 0} where
  -- the node as the ledger theorem sees it: what the sending ends of its links sent, what its pending stage
  -- received, and its stages, with nothing in a queue or a hand
  abbrev pub account_gathered : NodeId → QuorumTree → List NodeId → Left D → Account D
  account_gathered me set peers e = record {
    me = me;
    set = set;
    peers = peers;
    sent = sent_over e.links;
    upcoming = λ l. [];
    inbox = [];
    came = values e.pend.input.got;
    pending = e.pend.stage;
    on_way = [];
    ledger = e.slot.stage.ledger;
    onward = [];
    applier = e.apply.stage;
  }

-- ---- channels

-- The channel kept its producer's order, and holds no more than its room. All that the producer sent was received. Whatever the channel
-- holds, nothing of the producer is left in it.
pub record IsEmptied {T : Type 0} (r : Receiver T) (s : Sender T) : Type 0 where
  pub queued : IsQueued r s
  pub all : heard s.number r.got ≡ s.sent
  pub left : (q : IsQueued r s) → of s.number q.queue ≡ []

module _ {D : Type 0} where
  -- nothing is left in a link's queue, in the inbox, or in the queues after it
  pub record AreEmptied (peers : List NodeId) (e : Left D) : Type 0 where
    pub links : (l : ℕ) → (peer : NodeId) → slice_get peers l ≡ Some peer → (k : LinkEnd) → slice_get e.links l ≡ Some k → (reader : ReaderEnd) → slice_get e.readers l ≡ Some reader → IsEmptied reader.input k.tail × IfSome reader.output (IsEmptied e.pend.input)
    pub commands : IsEmptied e.pend.input e.local
    pub ready : IfSome e.pend.output (IsEmptied e.slot.input)
    pub decided : IfSome e.slot.output (IsEmptied e.apply.input)

-- ---- what is parked

-- a parked message of the connection is the one with its number
abbrev pub IsOfItsNumber : ConnId → List Message → Carried → Type 0
IsOfItsNumber c messages x = same_conn x.conn c ≡ true → slice_get messages x.seq.0 ≡ Some x.message

module _ {D : Type 0} where
  -- In each lane of the connection, its entries followed by its parked messages are all that was sent on it; or a beginning of that if it was
  -- cut off. Nothing comes after its end. Each parked message is the one with its number.
  pub record HasItsLine (a : Account D) (l : ℕ) (c : ConnId) (parked : List Carried) : Type 0 where
    pub whole : (s : ℕ) → IsWhole (in_lane (slots_sent a l c) s (line_sent a l c)) (in_lane (slots_sent a l c) s (marks_on c a.ledger.journal ++ marks_of_messages c parked))
    pub ends : (s : ℕ) → EndsLast (in_lane (slots_sent a l c) s (marks_on c a.ledger.journal ++ marks_of_messages c parked))
    pub messages_are : AllByRecursion (IsOfItsNumber c (carried_of CARRIED_LIMIT (sent c (a.sent l)))) parked

  -- each connection of a link is so, and no message is parked of any other connection
  pub record AreLeftParked (a : Account D) (parked : List Carried) : Type 0 where
    pub lines : (l : ℕ) → (peer : NodeId) → slice_get a.peers l ≡ Some peer → (life : ℕ) → HasItsLine a l (conn_at peer a.me life) parked
    pub of_links : AllByRecursion (λ x. IsOfLink a.me a.peers x.conn) parked

-- ---- all of it

-- the thing is a local command
abbrev pub is_command : Inbound → Bool
is_command (inbound.Opened conn) = false
is_command (inbound.Carried x) = false
is_command (inbound.Side conn message) = false
is_command (inbound.Closed conn cause) = false
is_command (inbound.Local command) = true

module _ {D : Type 0} (says : Says D) where
  -- What holds of a node in threads if each worker ended well. The ledger theorem holds of what was sent and received. Nothing is left in a
  -- channel. What is parked waits for its quorum set.
  pub record Gathered (me : NodeId) (set : QuorumTree) (peers : List NodeId) (e : Left D) : Type 0 where
    -- the ledger theorem, of what was sent over the links and what came to the pending stage
    pub keeps : KeepsLedger says.level says.extracted says.combined says.place (account_gathered me set peers e)
    -- the slot stage began with slot 1
    pub first : e.slot.stage.ledger.first ≡ 1
    -- what came is what each link's items are read as, and the commands, each in order
    pub read : (l : ℕ) → (peer : NodeId) → slice_get peers l ≡ Some peer → of_peer peer (values e.pend.input.got) ≡ readings unread (sent_over e.links l)
    pub told : filter is_command (values e.pend.input.got) ≡ e.local.sent
    pub shape : HasShape me peers (values e.pend.input.got)
    -- nothing is left in a channel
    pub emptied : AreEmptied peers e
    -- what is parked waits for its quorum set, and is what was sent and has no entry
    pub settled : IsSettledBy (fresh me peers set) (values e.pend.input.got) e.pend.stage
    pub parked : (parked : List Carried) → AreParked e.pend.stage parked → AreLeftParked (account_gathered me set peers e) parked

  -- `Gathered` holds if the ends are those of one node and each worker ended well
  abbrev pub WhatEndsWellIsGathered : Type 0
  WhatEndsWellIsGathered = (me : NodeId) (set : QuorumTree) (peers : List NodeId) (e : Left D) → IsNode me set peers e → EndWell says e → Gathered me set peers e
