-- What a watch leaves.
-- No public clause reaches this definition: nothing here need be believed.
use Rattle.std.specs.Prelude.{◌≡◌, false, Option}
use Rattle.scp_trace.specs.scp_turn.specs.Network.{NetworkView}
use Rattle.scp_trace.specs.scp_line.specs.declared.player.Stopped.{Stopped}
use Rattle.scp_draw.specs.declared.playing.LineFacts.{LineFacts}
use Rattle.scp_draw.specs.declared.playing.ToldRun.{ToldRun}

-- the network, what the watch noted, without ever running out of memory, and what stopped the script
pub record IsLeft (network : NetworkView) (watch : LineFacts) (stopped : Option Stopped) (run : ToldRun) : Type 0 where
  pub same_network : run.network ≡ network
  pub same_stop : run.stopped ≡ stopped
  pub told : run.tellings.items ≡ watch.facts.tellings
  pub calm : watch.facts.lacks_memory ≡ false
