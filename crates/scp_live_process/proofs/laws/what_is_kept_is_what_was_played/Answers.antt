use Rattle.scp_live_process.proofs.Replaying.{kept_is_played}
use Rattle.scp_live_process.proofs.laws.what_is_kept_is_what_was_played.Goals as goal

pub returns : goal.returns
returns c = kept_is_played
