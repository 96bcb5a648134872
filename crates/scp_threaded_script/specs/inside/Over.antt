-- Nodes that have ended: what is reported of them, and what they hand back of what they were given.
use Rattle.std.specs.Prelude.{◌≡◌, ℕ, ◌+◌, List, length, Option, Some, slice_get}
use Rattle.std.specs.Global.{Vec}
use Rattle.scp_threaded_node.specs.scp_shared_outbox.specs.Ends.{TakerView}
use Rattle.scp_threaded_node.specs.scp_shared_outbox.specs.declared.outlets.Outlets.{Outlets}
use Rattle.scp_threaded_node.specs.scp_gather.specs.Kv.{NodeReport, Left}
use Rattle.scp_script.specs.declared.command.Command.{Command}
use Rattle.scp_script.specs.Nodes.{id_of, peers_of, set_at}
use Rattle.scp_script.specs.Script.{node_count}
use Rattle.scp_threaded_node.specs.Kv.{AreHandedBack}
use Rattle.scp_threaded_node.specs.Outlets.{GivenEnds}
use Rattle.scp_threaded_script.specs.Reported.{IsNodeReported}

-- the node of this number left this, its report is made from that, and it hands back what it was given
pub record IsOver (commands : List Command) (number : ℕ) (given : GivenEnds) (left : Left) (r : NodeReport) (outlets : Outlets) (takers : Vec (Option TakerView)) : Type 0 where
  pub reported : IsNodeReported commands number left r
  pub back : AreHandedBack (id_of number) (set_at number commands) (peers_of (node_count commands) number) given left outlets takers.items

-- the same for each node, from the first on
pub record AreOver (commands : List Command) (given : List GivenEnds) (reports : List NodeReport) (outlets : List Outlets) (takers : List (Vec (Option TakerView))) : Type 0 where
  pub lefts : List Left
  pub lefts_count : length lefts ≡ length given
  pub reports_count : length reports ≡ length given
  pub outlets_count : length outlets ≡ length given
  pub takers_count : length takers ≡ length given
  pub each : (i : ℕ) → (g : GivenEnds) → slice_get given i ≡ Some g → (left : Left) → slice_get lefts i ≡ Some left → (r : NodeReport) → slice_get reports i ≡ Some r
      → (o : Outlets) → slice_get outlets i ≡ Some o → (t : Vec (Option TakerView)) → slice_get takers i ≡ Some t → IsOver commands (i + 1) g left r o t
