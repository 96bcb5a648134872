-- What holds while a script is played.
use Rattle.std.specs.Prelude.{ℕ, ◌≡◌, ◌≤◌, List}
use Rattle.scp_line.specs.scp_types.specs.declared.limits.TheConstants.{NODE_LIMIT}
use Rattle.scp_line.specs.scp_turn.specs.Heard.{Heard}
use Rattle.scp_line.specs.scp_turn.specs.Network.{NetworkView}
use Rattle.scp_line.specs.scp_script.specs.declared.command.Command.{Command}
use Rattle.scp_line.specs.scp_script.specs.Script.{node_count}
use Rattle.scp_line.specs.Nodes.{HasPlayed}
use Rattle.scp_trace.specs.Standing.{Moment}

-- nodes played these lines of a script; `count` is the number of nodes, at most eight
pub record IsPlaying (count : ℕ) (commands played : List Command) (network : NetworkView) : Type 0 where
  pub count_is : count ≡ node_count commands
  pub few : count ≤ NODE_LIMIT
  pub so_far : HasPlayed commands played network

-- the moment of this network, whose nodes heard this
abbrev pub moment_at : List Heard → NetworkView → Moment
moment_at heard network = record { heard = heard; nodes = network.nodes }
