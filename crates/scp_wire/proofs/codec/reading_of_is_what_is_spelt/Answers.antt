use Rattle.scp_wire.proofs.Readings.{reading_is_spelt}
use Rattle.scp_wire.proofs.codec.reading_of_is_what_is_spelt.Goals as goal

pub returns : goal.returns
returns c = reading_is_spelt
