-- What is reported of a node's links and threads as they end.
-- No public clause reaches these definitions: nothing here need be believed.
use Rattle.std.specs.Prelude.{◌≡◌, Bool, List, Option, None}
use Rattle.std.specs.List.{list_any}
use Rattle.scp_gather.specs.scp_types.specs.declared.fault.Fault.{Fault}
use Rattle.scp_gather.specs.Left.{Left}
use Rattle.scp_gather.specs.Report.{first_failed}
use Rattle.scp_threaded_node.specs.declared.ending.Stood.{Stood}
use Rattle.scp_threaded_node.specs.declared.node.Running.{Running}
use Rattle.scp_threaded_node.specs.declared.node.Tail.{Tail}
use Rattle.scp_threaded_node.specs.Faults.{TailEnd, LaneEnd, NodeEnd, IsTailEnd, AreLaneEnds, is_unread, tail_fault, links_fault, local_fault, stage_failed, fault_by}

-- the link's sending end ended, with this fault
abbrev pub HasTailFault : Tail → Stood → Option Fault → Type 0
HasTailFault tail stood why = (e : TailEnd) × IsTailEnd tail e × (why ≡ tail_fault e stood)

-- links ended, with whether a reader failed, and the fault of the first sending end that has one
pub record HaveEnded (lanes : List Running) (stood : List Stood) (failed : Bool) (why : Option Fault) : Type 0 where
  pub ends : List LaneEnd
  pub are : AreLaneEnds lanes stood ends
  pub failed_is : failed ≡ list_any is_unread ends
  pub why_is : why ≡ links_fault ends

module _ {A : Type 0} where
  -- what is left comes from threads that ended with this, and neither the links nor the commands have a fault
  abbrev pub IsLeftOf : NodeEnd A → Left A → Type 0
  IsLeftOf x e = (first_failed e ≡ stage_failed x) × (fault_by None (links_fault x.lanes) (local_fault x.local) ≡ None)
