use Rattle.scp_wire.proofs.Room.{within_room}
use Rattle.scp_wire.proofs.fitting.is_part.Goals as goal

pub returns-then-fits : goal.returns-then-fits
returns-then-fits g c =
    rw c.is_some.ensures (within_room g.T.Xdr.kind (g.T.Xdr.value c.args.part.now) 65532 c.spend.result (c.fits.ensures.0 c.if-fits.true) c.spend.ensures)
