use Rattle.std.proofs.Common.{refl}
use Rattle.scp_xdr.proofs.xdr.read_numbered.Goals as goal

pub returns : goal.returns
returns g c = rw (c.in_ok-first.ensures, c.in_ok-items.ensures) refl
