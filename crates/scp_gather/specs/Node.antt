-- What was left belongs to the channels of one node, and each worker ended well.
use Rattle.std.specs.Prelude.{◌≡◌, ℕ, ◌+◌, List, length, Some, IfSome, slice_get}
use Rattle.scp_workers.specs.scp_driver.specs.Driver.{Says}
use Rattle.scp_workers.specs.scp_types.specs.declared.names.NodeId.{NodeId}
use Rattle.scp_workers.specs.scp_quorum.specs.QuorumTree.{QuorumTree}
use Rattle.scp_workers.specs.scp_wire.specs.declared.link.Inbound.{Inbound}
use Rattle.scp_workers.specs.scp_pending.specs.declared.ready.Ready.{Ready}
use Rattle.scp_workers.specs.scp_ledger.specs.declared.took.Onward.{Onward}
use Rattle.scp_workers.specs.scp_ends.specs.Commands.{AreCommands}
use Rattle.scp_workers.specs.scp_ends.specs.Ends.{Sender, Receiver, IsQueued}
use Rattle.scp_workers.specs.scp_ends.specs.Links.{LinkEnd, IsLink}
use Rattle.scp_workers.specs.Reading.{ReaderEnd, HasReadAll}
use Rattle.scp_workers.specs.Pending.{HasPendedAll, IsFor as PendsFor}
use Rattle.scp_workers.specs.Slot.{HasJournaledAll, IsFor as JournalsFor}
use Rattle.scp_workers.specs.Apply.{HasAppliedAll}
use Rattle.scp_gather.specs.Left.{Left}
use Rattle.scp_workers.specs.scp_pending.specs.Peers.{AreApart}

-- ---- names, places and numbers

-- the link at this place, from this peer, and its reader
pub record IsLinkAt (me peer : NodeId) (place : ℕ) (k : LinkEnd) (e : ReaderEnd) : Type 0 where
  pub from : k.from ≡ peer
  pub to : k.to ≡ me
  pub alone : e.input.producers ≡ 1
  pub number : IfSome e.output (λ s. s.number ≡ place)

module _ {D : Type 0} where
  -- There is one link and one reader for each peer, and no peer twice. The inbox has a producer for each link and one for the commands; each
  -- other channel has one. The stages are those of the node.
  pub record IsNode (me : NodeId) (set : QuorumTree) (peers : List NodeId) (e : Left D) : Type 0 where
    pub apart : AreApart peers
    pub links_count : length e.links ≡ length peers
    pub readers_count : length e.readers ≡ length peers
    pub lanes : (l : ℕ) → (peer : NodeId) → slice_get peers l ≡ Some peer → (k : LinkEnd) → slice_get e.links l ≡ Some k → (reader : ReaderEnd) → slice_get e.readers l ≡ Some reader → IsLinkAt me peer l k reader
    pub local_number : e.local.number ≡ length peers
    pub inbox : e.pend.input.producers ≡ length peers + 1
    pub ready : e.slot.input.producers ≡ 1
    pub decided : e.apply.input.producers ≡ 1
    pub pends_for : PendsFor me peers set e.pend.first
    pub journals_for : JournalsFor me peers set e.slot.first.ledger

-- ---- each ended well

-- what the link's tail sent went to the reader, and what the reader sent went to the inbox, in order
pub record IsReadOut (inbox : Receiver Inbound) (k : LinkEnd) (e : ReaderEnd) : Type 0 where
  pub output : Sender Inbound
  pub ended : e.output ≡ Some output
  pub link : IsLink k
  pub queued : IsQueued e.input k.tail
  pub reads : HasReadAll e
  pub brings : IsQueued inbox output

module _ {D : Type 0} (says : Says D) where
  -- every worker ended well, and each channel kept the order of each of its producers
  pub record EndWell (e : Left D) : Type 0 where
    pub lanes : (l : ℕ) → (k : LinkEnd) → slice_get e.links l ≡ Some k → (reader : ReaderEnd) → slice_get e.readers l ≡ Some reader → IsReadOut e.pend.input k reader
    pub commands : AreCommands e.local.sent
    pub told : IsQueued e.pend.input e.local
    pub given : Sender Ready
    pub pend_ended : e.pend.output ≡ Some given
    pub pends : HasPendedAll e.pend
    pub ready : IsQueued e.slot.input given
    pub onward : Sender Onward
    pub slot_ended : e.slot.output ≡ Some onward
    pub journals : HasJournaledAll says e.slot
    pub decided : IsQueued e.apply.input onward
    pub applies : HasAppliedAll e.apply
