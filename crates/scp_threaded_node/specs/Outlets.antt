-- The outbox ends that a node has while it runs, and hands back when it has ended.
use Rattle.std.specs.Prelude.{◌≡◌, Bool, List, length, map, Option, None, Some, is_some, slice_get}
use Rattle.scp_gather.specs.scp_types.specs.declared.names.NodeId.{NodeId}
use Rattle.scp_gather.specs.scp_quorum.specs.QuorumTree.{QuorumTree}
use Rattle.scp_gather.specs.scp_shared_outbox.specs.Ends.{PutterView, TakerView}
use Rattle.scp_gather.specs.scp_shared_outbox.specs.Places.{Each}
use Rattle.scp_gather.specs.scp_shared_outbox.specs.declared.outlets.Outlets.{Outlets}
use Rattle.scp_gather.specs.scp_ends.specs.Links.{LinkEnd}
use Rattle.scp_gather.specs.scp_workers.specs.Working.{AreSameOutlets}
use Rattle.scp_gather.specs.scp_workers.specs.Reading.{ReaderWork}
use Rattle.scp_gather.specs.scp_workers.specs.Carrying.{HasCarried, IsSameTaker}
use Rattle.scp_gather.specs.scp_driver.specs.Driver.{Says}
use Rattle.scp_gather.specs.Left.{Left}
use Rattle.scp_gather.specs.Report.{keeps_by}
use Rattle.scp_gather.specs.Sending.{ArePutOut}
use Rattle.scp_threaded_node.specs.declared.make.Lane.{Lane}
use Rattle.scp_threaded_node.specs.declared.node.Node.{Node}
use Rattle.scp_threaded_node.specs.declared.node.Running.{Running}
use Rattle.scp_threaded_node.specs.declared.node.Tail.{Tail}
use Rattle.scp_threaded_node.specs.declared.node.Tail.TheVariants.{Host, Courier}

-- the outbox end that the link's courier was given; none if the host sends on the link
abbrev pub taker_of : Tail → Option TakerView
taker_of (Host k) = None
taker_of (Courier thread) = Some thread.promise.0.value.taker

-- the same for a link that runs
abbrev pub taker_in : Running → Option TakerView
taker_in x = taker_of x.tail

-- the reader keeps what it receives
abbrev pub is_keeping : ReaderWork → Bool
is_keeping r = is_some r.first.kept

-- whether the reader of a link that isn't started yet keeps what it receives
abbrev pub keeps_from : Lane → Bool
keeps_from x = is_keeping x.reader

-- the readers of all links keep what they receive, or none does, as `keeps` says
abbrev pub AllKeep : Bool → List Lane → Type 0
AllKeep keeps lanes = Each (λ i x. keeps_from x ≡ keeps) lanes

-- whether the reader of a running link keeps what it receives
abbrev pub keeps_in : Running → Bool
keeps_in x = is_keeping x.reader.promise.0.value

-- The outbox ends that a node was given: those into which its three stages put, and for each link the end of its courier. For each link it
-- also says whether the reader keeps what it receives.
pub record GivenEnds : Type 0 where
  pub replies : List PutterView
  pub said : List PutterView
  pub answers : List PutterView
  pub takers : List (Option TakerView)
  pub keeps : List Bool

module _ {A S : Type 0} where
  -- the ends that a running node was given
  abbrev pub given_to : Node A S → GivenEnds
  given_to node = record {
    replies = node.pend.promise.0.value.outlets;
    said = node.slot.promise.0.value.outlets;
    answers = node.apply.promise.0.value.outlets;
    takers = map taker_in node.lanes.items;
    keeps = map keeps_in node.lanes.items;
  }

-- For a link that the host drives nothing is handed back. A courier hands back its outbox end, and all messages that this end gave went over
-- the link, in order.
abbrev pub IsHandedBack : Option TakerView → LinkEnd → Option TakerView → Type 0
IsHandedBack None k back = back ≡ None
IsHandedBack (Some given) k back = (taker : TakerView) × (back ≡ Some taker) × IsSameTaker given taker × HasCarried taker.gave k

module _ {A : Type 0} (says : Says A) where
  -- What a node that has ended hands back. For each link it is what the link's courier hands back. For its stages it is the ends into which
  -- they put what they handed out. The readers kept what they received for exactly the links that were given so.
  pub record AreHandedBack (me : NodeId) (set : QuorumTree) (peers : List NodeId) (given : GivenEnds) (left : Left A) (outlets : Outlets) (takers : List (Option TakerView)) : Type 0 where
    pub takers_count : length takers ≡ length given.takers
    pub takers_are : Each (λ i end. (k : LinkEnd) → slice_get left.links i ≡ Some k → (back : Option TakerView) → slice_get takers i ≡ Some back → IsHandedBack end k back) given.takers
    pub outlets_are : (outlets.pend.items ≡ left.pend.outlets) × (outlets.slot.items ≡ left.slot.outlets) × (outlets.apply.items ≡ left.apply.outlets)
    pub replies : AreSameOutlets given.replies left.pend.outlets
    pub said : AreSameOutlets given.said left.slot.outlets
    pub answers : AreSameOutlets given.answers left.apply.outlets
    pub put : ArePutOut says me set peers left
    pub keeps : map keeps_by left.readers ≡ given.keeps
