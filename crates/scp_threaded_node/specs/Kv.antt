-- Nodes in threads whose values are operation lists (this project's profile).
use Rattle.std.specs.Prelude.{ℕ, Bool, List, Option}
use Rattle.std.specs.FinMap as finite
use Rattle.scp_gather.specs.scp_types.specs.declared.names.NodeId.{NodeId}
use Rattle.scp_gather.specs.scp_quorum.specs.QuorumTree.{QuorumTree}
use Rattle.scp_gather.specs.scp_driver.specs.declared.kv_driver.KvDriver.{KvDriver}
use Rattle.scp_gather.specs.scp_driver.specs.Kv.{kv_says}
use Rattle.scp_gather.specs.scp_kv.specs.Map.{KvMap}
use Rattle.scp_gather.specs.scp_kv.specs.State.{after_value}
use Rattle.scp_gather.specs.scp_shared_outbox.specs.Ends.{TakerView}
use Rattle.scp_gather.specs.scp_shared_outbox.specs.declared.outlets.Outlets.{Outlets}
use Rattle.scp_gather.specs.scp_wire.specs.declared.link.Inbound.{Inbound}
use Rattle.scp_gather.specs.scp_wire.specs.declared.link.LinkItem.{LinkItem}
use Rattle.scp_gather.specs.Kv.{NodeReport, Left}
use Rattle.scp_gather.specs.scp_types.specs.declared.capacities.Capacities.{Capacities}
use Rattle.scp_threaded_node.specs.declared.ending.Over as over
use Rattle.scp_threaded_node.specs.declared.ending.Stood.{Stood}
use Rattle.scp_threaded_node.specs.declared.node.Node as node
use Rattle.scp_threaded_node.specs.Ended as ended
use Rattle.scp_threaded_node.specs.Faults as faults
use Rattle.scp_threaded_node.specs.Outlets as outlets
use Rattle.scp_threaded_node.specs.Outlets.{GivenEnds}

-- a running node whose values are operation lists
abbrev pub Node : Type 0
Node = node.Node KvDriver KvMap

-- what the threads of such a node ended with
abbrev pub NodeEnd : Type 0
NodeEnd = faults.NodeEnd KvDriver

-- what is reported of such a node that has ended, with what it hands back
abbrev pub Over : Type 0
Over = over.Over KvDriver KvMap

-- this is the report of such a node, gathered from what its threads left
abbrev pub IsEnded : NodeId → QuorumTree → List NodeId → Capacities → List Inbound → (ℕ → Bool) → (ℕ → List LinkItem) → List Stood → Left → NodeReport → Type 0
IsEnded me set peers caps commands driven sent stood left r = ended.IsEnded kv_says finite.empty after_value me set peers caps commands driven sent stood left r

-- what such a node hands back of the outbox ends that it was given
abbrev pub AreHandedBack : NodeId → QuorumTree → List NodeId → GivenEnds → Left → Outlets → List (Option TakerView) → Type 0
AreHandedBack me set peers given left handed takers = outlets.AreHandedBack kv_says me set peers given left handed takers
