use Rattle.scp_turn.proofs.Draws.{sendings_are_sent}
use Rattle.scp_turn.proofs.went_out.what_went_out_was_sent.Goals as goal

pub returns : goal.returns
returns c = sendings_are_sent
