-- Why a node that has ended isn't reported: what its threads ended with, and which of their faults comes first.
use Rattle.std.specs.Prelude.{◌≡◌, ℕ, Bool, true, false, not, ◌&&◌, List, [], ◌∷◌, length, Option, None, Some, IfSome, is_none, option_map, nat_eq, if◌then◌else◌, slice_get}
use Rattle.std.specs.List.{list_any}
use Rattle.std.specs.Option.{option_or}
use Rattle.scp_gather.specs.scp_types.specs.declared.fault.Fault.{Fault}
use Rattle.scp_gather.specs.scp_types.specs.declared.fault.Fault.TheVariants.{NoMemory, NotOpen, Refused}
use Rattle.scp_gather.specs.scp_types.specs.declared.fault.Stage.{Stage}
use Rattle.scp_gather.specs.scp_types.specs.declared.fault.Stage.TheVariants.{Reader, Pend}
use Rattle.scp_gather.specs.scp_wire.specs.declared.link.Inbound.{Inbound}
use Rattle.scp_gather.specs.scp_ends.specs.Ends.{Sender}
use Rattle.scp_gather.specs.scp_ends.specs.Links.{LinkEnd}
use Rattle.scp_gather.specs.scp_workers.specs.Working.{Holds}
use Rattle.scp_gather.specs.scp_workers.specs.Reading.{ReaderEnd}
use Rattle.scp_gather.specs.scp_workers.specs.Pending.{PendEnd}
use Rattle.scp_gather.specs.scp_workers.specs.Slot.{SlotEnd}
use Rattle.scp_gather.specs.scp_workers.specs.Apply.{ApplyEnd}
use Rattle.scp_gather.specs.scp_workers.specs.Carrying.{CourierEnd}
use Rattle.scp_gather.specs.scp_workers.specs.Carrying.{Holds as HoldsCourier}
use Rattle.scp_gather.specs.Report.{has_failed, first_so}
use Rattle.scp_threaded_node.specs.declared.ending.Stood.{Stood}
use Rattle.scp_threaded_node.specs.declared.node.Node.{Node}
use Rattle.scp_threaded_node.specs.declared.node.Running.{Running}
use Rattle.scp_threaded_node.specs.declared.node.Tail.{Tail}
use Rattle.scp_threaded_node.specs.declared.node.Tail.TheVariants.{Host, Courier}

-- ---- what the threads of a node ended with

-- How the sending end of a link ended. The host's own end is lost if the reader was gone; a courier's end comes back with the courier.
pub data TailEnd : Type 0 where
  driven : Option LinkEnd → TailEnd
  carried : CourierEnd → TailEnd

-- what a link's reader and its sending end ended with, and how the link should be left
pub record LaneEnd : Type 0 where
  pub reader : ReaderEnd
  pub tail : TailEnd
  pub stood : Stood

-- What all threads of a node ended with, and the sending end of its own commands. That end is lost if the pending stage was gone.
pub record NodeEnd (A : Type 0) : Type 0 where
  pub lanes : List LaneEnd
  pub local : Option (Sender Inbound)
  pub pend : PendEnd
  pub slot : SlotEnd A
  pub apply : ApplyEnd

-- the sending end of the link ended with this
abbrev pub IsTailEnd : Tail → TailEnd → Type 0
IsTailEnd (Host k) (driven left) = IfSome left (λ d. d ≡ k)
IsTailEnd (Host k) (carried e) = ⊥
IsTailEnd (Courier thread) (driven left) = ⊥
IsTailEnd (Courier thread) (carried e) = HoldsCourier thread.promise.0.value e

-- the reader of the link and its sending end ended with this, and the link should be left as `stood` says
pub record IsLaneEnd (stood : Option Stood) (x : Running) (e : LaneEnd) : Type 0 where
  pub reader : Holds x.reader.promise.0.value e.reader
  pub tail : IsTailEnd x.tail e.tail
  pub stood_is : stood ≡ Some e.stood

-- the same for each link, at its place
pub record AreLaneEnds (lanes : List Running) (stood : List Stood) (ends : List LaneEnd) : Type 0 where
  pub count : length ends ≡ length lanes
  pub each : (i : ℕ) → (x : Running) → slice_get lanes i ≡ Some x → (e : LaneEnd) → slice_get ends i ≡ Some e → IsLaneEnd (slice_get stood i) x e

module _ {A S : Type 0} where
  -- the node's threads ended with this, as they promised
  pub record IsNodeEnd (node : Node A S) (stood : List Stood) (e : NodeEnd A) : Type 0 where
    pub lanes : AreLaneEnds node.lanes.items stood e.lanes
    pub local : IfSome e.local (λ s. s ≡ node.local)
    pub pend : Holds node.pend.promise.0.value e.pend
    pub slot : Holds node.slot.promise.0.value e.slot
    pub apply : Holds node.apply.promise.0.value e.apply

-- ---- which fault is reported

-- the reader of the link failed
abbrev pub is_unread : LaneEnd → Bool
is_unread e = has_failed e.reader

module _ {A : Type 0} where
  -- the first stage, in the order of the pipeline, that has a failed worker
  abbrev pub stage_failed : NodeEnd A → Option Stage
  stage_failed e = first_so (list_any is_unread e.lanes) (has_failed e.pend) (has_failed e.slot) (has_failed e.apply)

-- both are open, or neither is
abbrev pub same_open : Bool → Bool → Bool
same_open true b = b
same_open false b = not b

-- the courier opened its link as often as `stood` says, and left it open or closed as it says
abbrev pub stands_so : CourierEnd → Stood → Bool
stands_so e stood = nat_eq e.lives stood.lives && same_open e.is_open stood.is_open

-- The fault of a courier: `NoMemory` if it failed, `NotOpen` if it didn't leave its link as it should.
abbrev pub courier_fault : CourierEnd → Stood → Option Fault
courier_fault e stood = if is_none e.link then Some NoMemory else (if stands_so e stood then None else Some NotOpen)

-- The fault of a link's sending end: the link's reader was gone before the host stopped the link, or its courier has a fault.
abbrev pub tail_fault : TailEnd → Stood → Option Fault
tail_fault (driven None) stood = Some (Refused Reader)
tail_fault (driven (Some k)) stood = None
tail_fault (carried e) stood = courier_fault e stood

-- the fault of the first link whose sending end has one
abbrev pub links_fault : List LaneEnd → Option Fault
links_fault [] = None
links_fault (e ∷ es) = option_or (tail_fault e.tail e.stood) (links_fault es)

-- the fault of a node's commands: the pending stage was gone before they were stopped
abbrev pub local_fault : Option (Sender Inbound) → Option Fault
local_fault None = Some (Refused Pend)
local_fault (Some s) = None

-- A stage's failure comes first, then a link's fault, then that of the commands.
abbrev pub fault_by : Option Stage → Option Fault → Option Fault → Option Fault
fault_by stage links commands = option_or (option_map Refused stage) (option_or links commands)

module _ {A : Type 0} where
  -- The fault of a node that has ended: the first stage that has a failed worker; else the fault of the first link whose sending end has one;
  -- else the fault of its commands.
  abbrev pub fault_of : NodeEnd A → Option Fault
  fault_of e = fault_by (stage_failed e) (links_fault e.lanes) (local_fault e.local)

-- This fault is reported; if there is none, it is out of memory.
abbrev pub IsTold : Option Fault → Fault → Type 0
IsTold None fault = fault ≡ NoMemory
IsTold (Some first) fault = fault ≡ first
