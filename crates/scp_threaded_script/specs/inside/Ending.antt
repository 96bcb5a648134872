-- What is reported of nodes as they end.
use Rattle.std.specs.Prelude.{◌≡◌, ◌≤◌, ◌⊎◌, List, length, Option, Some, None, false}
use Rattle.std.specs.Global.{Vec}
use Rattle.scp_threaded_node.specs.scp_types.specs.declared.fault.Fault.TheVariants.{NoMemory, NotOpen}
use Rattle.scp_script.specs.declared.command.Command.{Command}
use Rattle.scp_script.specs.Script.{node_count}
use Rattle.scp_threaded_node.specs.declared.ending.Stood.{Stood}
use Rattle.scp_threaded_node.specs.Kv.{Node, NodeEnd}
use Rattle.scp_threaded_script.specs.declared.running.Ended.{Ended}
use Rattle.scp_threaded_script.specs.declared.running.NodeFault.{NodeFault}
use Rattle.scp_threaded_script.specs.Reported.{AreNodeEnds, first_refused}
use Rattle.scp_threaded_script.specs.inside.Reported.{AllStand}

-- no stage failed, each link is left as it should be, and nothing was lost
abbrev pub IsWhole : Ended → Type 0
IsWhole e = (e.lost ≡ false) × (e.astray ≡ false) × (e.refused ≡ None)

-- nodes ended, and this is the first stage's fault among them
pub record HaveAllEnded (nodes : List Node) (all : List (Vec Stood)) (refused : Option NodeFault) : Type 0 where
  pub ends : List NodeEnd
  pub count : length ends ≡ length nodes
  pub ended : (commands : List Command) → AllStand commands all → length nodes ≤ node_count commands → AreNodeEnds commands nodes ends
  pub is : refused ≡ first_refused 1 ends

-- if there is no stage's fault, a link wasn't left as it should be, or it is out of memory
abbrev pub IsEndFault : Option NodeFault → NodeFault → Type 0
IsEndFault None e = (e ≡ record { fault = NotOpen; node = 0 }) ⊎ (e ≡ record { fault = NoMemory; node = 0 })
IsEndFault (Some first) e = e ≡ first

-- the fault names a node
abbrev pub IsNumbered : Option NodeFault → Type 0
IsNumbered None = Unit {0}
IsNumbered (Some first) = 1 ≤ first.node
