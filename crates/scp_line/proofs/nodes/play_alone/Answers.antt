use Rattle.std.proofs.Common.{◌≡◌, length}
use Rattle.scp_line.specs.declared.watch.Nobody.{Nobody}
use Rattle.scp_line.specs.Player.{lining}
use Rattle.scp_line.proofs.Runs.{run_is_played, stop_is_stopped}
use Rattle.scp_line.proofs.nodes.play_alone.Goals as goal

pub returns-in-Ok-play_lines-clause-played : goal.returns-in-Ok-play_lines-clause-played
returns-in-Ok-play_lines-clause-played c =
    run_is_played (lining {W = Nobody} (λ old line command nodes new. new ≡ old) (λ old line command calm nodes new. new ≡ old) (λ old number event node new. new ≡ old) (λ old number reply node new. new ≡ old)) c.args.commands.now _ c.play_lines.new.network _ _ c.requires.names c.in-Ok-play_lines.ensures.played
