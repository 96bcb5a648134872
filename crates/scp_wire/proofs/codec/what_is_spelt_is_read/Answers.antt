use Rattle.scp_wire.proofs.Readings.{reading_spelt}
use Rattle.scp_wire.proofs.codec.what_is_spelt_is_read.Goals as goal

pub returns : goal.returns
returns c = λ bytes m s. reading_spelt bytes m s
