-- How much a node holds, while its stages run in threads.
use Rattle.std.specs.Prelude.{◌≡◌, ℕ, ◌+◌, ◌*◌, ◌≤◌, ◌⊎◌, Bool, true, false, List, ◌++◌, Option, All, length, sum_by, count_by, option_to_list}
use Rattle.scp_workers.specs.scp_types.specs.declared.limits.TheConstants.{WINDOW}
use Rattle.scp_workers.specs.scp_pending.specs.declared.pending.TheConstants.{PARKED_LIMIT}
use Rattle.scp_workers.specs.scp_types.specs.declared.names.NodeId.{NodeId}
use Rattle.scp_workers.specs.scp_wire.specs.declared.link.Inbound.{Inbound}
use Rattle.scp_workers.specs.scp_wire.specs.declared.link.LinkItem.{LinkItem}
use Rattle.scp_workers.specs.scp_wire.specs.declared.link.LinkItem.TheVariants as item
use Rattle.scp_workers.specs.scp_wire.specs.LinkReading.{ReaderView, reading}
use Rattle.scp_workers.specs.scp_wire.specs.Reading.{AreBytes}
use Rattle.scp_workers.specs.scp_pending.specs.declared.ready.Ready.{Ready}
use Rattle.scp_workers.specs.scp_pending.specs.declared.ready.Ready.TheVariants.{Deliver, Dropped, Closed, Local}
use Rattle.scp_workers.specs.scp_pending.specs.Pends.{Pends}
use Rattle.scp_workers.specs.scp_pending.specs.Queues.{QueueView}
use Rattle.scp_workers.specs.scp_pending.specs.Rules.{PendingView, rules, releases}
use Rattle.scp_workers.specs.scp_ledger.specs.declared.took.Onward.{Onward}
use Rattle.scp_workers.specs.scp_apply.specs.Applier.{ApplierView, IsRunning}
use Rattle.scp_workers.specs.scp_ends.specs.declared.item.Item.{Item}

-- ---- what the parts hold

-- a channel: how many items it may hold, and those that it holds
pub record Filled (T : Type 0) : Type 0 where
  pub room : ℕ
  pub queue : List (Item T)

-- a link: its channel, and its reader's hand, which has what the reader read and hasn't sent yet
pub record FilledLink : Type 0 where
  pub channel : Filled LinkItem
  pub hand : List Inbound

-- What a node holds at some moment. Its links and its other channels. Its pending stage, as it was when it last had nothing ready and as it
-- is, and what its worker is about to send. What the slot stage's worker took, or what that gave and the worker is about to send. What the
-- applier's worker took, and what the applier buffers.
pub record Holding : Type 0 where
  pub links : List FilledLink
  pub inbox : Filled Inbound
  pub settled : PendingView
  pub pending : PendingView
  pub given : Option Ready
  pub ready : Filled Ready
  pub slot : Option (Ready ⊎ Onward)
  pub decided : Filled Onward
  pub deciding : Option Onward
  pub applier : ApplierView

-- ---- what holds of each part by itself

-- a channel holds no more than its rule allows
abbrev pub IsWithin : {T : Type 0} → Filled T → Type 0
IsWithin c = length c.queue ≤ c.room

-- the bytes of an item are bytes
abbrev pub HasBytes : LinkItem → Type 0
HasBytes (item.Opened conn) = Unit {0}
HasBytes (item.Bytes conn bytes) = AreBytes bytes
HasBytes (item.Closed conn) = Unit {0}

-- a reader has in hand what is left of what one item is read as: up to 32 records of a batch
pub record IsInHand (hand : List Inbound) : Type 0 where
  pub at : ReaderView
  pub item : LinkItem
  pub bytes : HasBytes item
  pub sent : List Inbound
  pub rest : sent ++ hand ≡ reading at item

-- a link's channel and its reader's hand
pub record IsLinkWithin (k : FilledLink) : Type 0 where
  pub channel : IsWithin k.channel
  pub hand : IsInHand k.hand

-- one item was taken from a stage that takes and gives by its rules, and some of what that released was given
pub record TookOne (old now : PendingView) : Type 0 where
  pub me : NodeId
  pub peers : List NodeId
  pub took : List Inbound
  pub gave : List Ready
  pub pends : Pends me peers took gave old
  pub item : Inbound
  pub settled : now.settled ≡ rules old.settled item
  pub out : List Ready
  pub left : out ++ now.leaving ≡ releases old.settled item

-- each part keeps its own bound, by its rule or by its calls
pub record KeepsBounds (h : Holding) : Type 0 where
  pub links : All IsLinkWithin h.links
  pub inbox : IsWithin h.inbox
  pub pending : TookOne h.settled h.pending
  pub ready : IsWithin h.ready
  pub decided : IsWithin h.decided
  pub applier : IsRunning h.applier

-- ---- how much that is

-- it is a message, delivered or dropped, and neither the end of a connection nor a command
abbrev pub is_message : Ready → Bool
is_message (Deliver delivery) = true
is_message (Dropped conn seq cause) = true
is_message (Closed conn cause) = false
is_message (Local command) = false

-- how many messages are parked in the queues
abbrev pub parked_in_all : List QueueView → ℕ
parked_in_all queues = sum_by (λ q. length q.parked) queues

-- how many messages the pending stage holds: those that leave, and those that are parked
abbrev pub messages_held : PendingView → ℕ
messages_held v = count_by is_message v.leaving + parked_in_all v.settled.queues

-- how many things a link holds: in its channel, and in its reader's hand
abbrev pub link_held : FilledLink → ℕ
link_held k = length k.channel.queue + length k.hand

-- how many it holds at most: what its channel has room for, and 32 in hand
abbrev pub link_room : FilledLink → ℕ
link_room k = k.channel.room + 32

-- what the channels and the workers' hands hold
abbrev pub underway : Holding → ℕ
underway h =
    sum_by link_held h.links + length h.inbox.queue + length h.ready.queue + length h.decided.queue
    + length (option_to_list h.given) + length (option_to_list h.slot) + length (option_to_list h.deciding)

-- all that the node holds; of the pending stage the messages
abbrev pub held : Holding → ℕ
held h = underway h + messages_held h.pending + length h.applier.buffer

-- At most what the channels have room for, with up to 32 in each reader's hand and one in each other worker's. Then 64 messages for each
-- connection that was open when the pending stage last had nothing ready, and the one that it took since. And 16 decisions that are buffered.
abbrev pub HoldsAtMost : Type 0
HoldsAtMost = (h : Holding) → KeepsBounds h →
    held h ≤ sum_by link_room h.links + h.inbox.room + h.ready.room + h.decided.room + 3
    + (PARKED_LIMIT * length h.settled.settled.queues + 1) + WINDOW
