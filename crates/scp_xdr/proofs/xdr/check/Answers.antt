use Rattle.std.proofs.Common.{arith}
use Rattle.scp_xdr.proofs.Passes.{exact_from, known_from, spelt_from}
use Rattle.scp_xdr.proofs.xdr.check.Goals as goal

pub returns-clause-found : goal.returns-clause-found
returns-clause-found g c = spelt_from g.T.Xdr.kind c.args.bytes.now c.pass_whole.result (λ i. omega (arith, c.type_inv.bytes i)) (exact_from g.T.Xdr.kind c.args.bytes.now c.pass_whole.result c.pass_whole.ensures)

pub returns-clause-exact : goal.returns-clause-exact
returns-clause-exact g c = exact_from g.T.Xdr.kind c.args.bytes.now c.pass_whole.result c.pass_whole.ensures

pub returns-clause-faults : goal.returns-clause-faults
returns-clause-faults g c = known_from g.T.Xdr.kind c.args.bytes.now c.pass_whole.result c.pass_whole.ensures
