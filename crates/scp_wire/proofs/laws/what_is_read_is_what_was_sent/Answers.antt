use Rattle.scp_wire.proofs.Sents.{readings_are_sent}
use Rattle.scp_wire.proofs.laws.what_is_read_is_what_was_sent.Goals as goal

pub returns : goal.returns
returns c = readings_are_sent
