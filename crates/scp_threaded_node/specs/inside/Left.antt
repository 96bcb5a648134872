-- What the threads of a node left, compared with what they were started with.
use Rattle.std.specs.Prelude.{◌≡◌, ℕ, List, length, Option, Some, slice_get}
use Rattle.scp_gather.specs.scp_shared_outbox.specs.Ends.{TakerView}
use Rattle.scp_gather.specs.scp_ends.specs.Links.{LinkEnd}
use Rattle.scp_gather.specs.scp_workers.specs.Working.{Holds}
use Rattle.scp_gather.specs.scp_workers.specs.Reading.{ReaderEnd}
use Rattle.scp_gather.specs.scp_workers.specs.Carrying.{IsSameLink}
use Rattle.scp_gather.specs.Left.{Left}
use Rattle.scp_threaded_node.specs.declared.node.Node.{Node}
use Rattle.scp_threaded_node.specs.declared.node.Running.{Running}
use Rattle.scp_threaded_node.specs.Outlets.{IsHandedBack, taker_in}
use Rattle.scp_threaded_node.specs.Seats.{tail_of}

-- a link's sending end, what its reader ended with, and what its courier hands back
pub record IsLaneOf (x : Running) (r : ReaderEnd) (k : LinkEnd) (back : Option TakerView) : Type 0 where
  pub reader : Holds x.reader.promise.0.value r
  pub link : IsSameLink (tail_of x.tail) k
  pub handed_back : IsHandedBack (taker_in x) k back

-- the same for each link, in their order
pub record AreEndsOf (lanes : List Running) (readers : List ReaderEnd) (links : List LinkEnd) (takers : List (Option TakerView)) : Type 0 where
  pub readers_count : length readers ≡ length lanes
  pub links_count : length links ≡ length lanes
  pub takers_count : length takers ≡ length lanes
  pub each : (i : ℕ) → (x : Running) → slice_get lanes i ≡ Some x → (r : ReaderEnd) → slice_get readers i ≡ Some r → (k : LinkEnd) → slice_get links i ≡ Some k → (back : Option TakerView) → slice_get takers i ≡ Some back → IsLaneOf x r k back

module _ {A S : Type 0} where
  -- the ends are those that the threads of the node were given, and the end of its own commands is the node's
  pub record IsLeft (node : Node A S) (e : Left A) (takers : List (Option TakerView)) : Type 0 where
    pub lanes : AreEndsOf node.lanes.items e.readers e.links takers
    pub local : e.local ≡ node.local
    pub pend : Holds node.pend.promise.0.value e.pend
    pub slot : Holds node.slot.promise.0.value e.slot
    pub apply : Holds node.apply.promise.0.value e.apply
