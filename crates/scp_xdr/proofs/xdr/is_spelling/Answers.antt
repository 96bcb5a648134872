use Rattle.scp_xdr.proofs.Passes.{decided}
use Rattle.scp_xdr.proofs.xdr.is_spelling.Goals as goal

pub returns : goal.returns
returns g c = rw c.is_ok.ensures.value (decided g.T.Xdr.kind c.args.bytes.now c.check.result c.check.ensures.exact c.check.ensures.found)
