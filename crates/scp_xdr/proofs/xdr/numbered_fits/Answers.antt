use Rattle.std.proofs.Common.{arith}
use Rattle.scp_xdr.proofs.Each.{numbered_decided}
use Rattle.scp_xdr.proofs.xdr.numbered_fits.Goals as goal

pub returns-then-first-count : goal.returns-then-first-count
returns-then-first-count g c = numbered_decided c.args.max c.args.first g.T.Xdr.kind g.T.Xdr.value c.args.items.now c.all_fit.result (omega arith) (omega arith) (omega arith) (omega arith) (omega arith) c.all_fit.ensures
