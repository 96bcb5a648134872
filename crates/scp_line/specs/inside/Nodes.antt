-- What the nodes of a script hear from line to line, while the script is played.
-- No public clause reaches these definitions: nothing here need be believed.
use Rattle.std.specs.Prelude.{◌≤◌, ◌≡◌, ◌⊎◌, List, length}
use Rattle.scp_turn.specs.scp_types.specs.declared.limits.TheConstants.{NODE_LIMIT}
use Rattle.scp_turn.specs.scp_types.specs.declared.fault.Fault.TheVariants.{Failed as failing, Full as full}
use Rattle.scp_turn.specs.Heard.{Heard}
use Rattle.scp_turn.specs.Network.{NetworkView}
use Rattle.scp_report.specs.scp_script.specs.declared.command.Command.{Command}
use Rattle.scp_report.specs.scp_script.specs.Nodes.{IsSmall}
use Rattle.scp_line.specs.declared.playing.PlayFault.{PlayFault}
use Rattle.scp_line.specs.Play.{ArePlayed, Stops, Overflows}
use Rattle.scp_line.specs.Nodes.{IsWant}

-- all lines were played
pub record IsPlayed (commands : List Command) (network : NetworkView) : Type 0 where
  pub heard : List Heard
  pub played : ArePlayed commands commands heard network.nodes
  pub few : length network.nodes ≤ NODE_LIMIT

-- why not all lines were done
abbrev pub IsStopped : List Command → PlayFault → Type 0
IsStopped commands e = IsWant e ⊎ (((e.fault ≡ failing) × IsSmall e.node × Stops commands e.node) ⊎ ((e.fault ≡ full) × (e.node ≡ 0) × Overflows commands))
