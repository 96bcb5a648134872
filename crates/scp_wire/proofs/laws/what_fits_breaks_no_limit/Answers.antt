use Rattle.scp_wire.proofs.Limits.{limits_are}
use Rattle.scp_wire.proofs.laws.what_fits_breaks_no_limit.Goals as goal

pub returns : goal.returns
returns c = record { limits = limits_are }
