use Rattle.std.proofs.Common.{arith}
use Rattle.std.proofs.lemmas.Result.{err_from_is_err_and}
use Rattle.scp_xdr.specs.Reading.{reading_whole}
use Rattle.scp_xdr.specs.Words.{Gives}
use Rattle.scp_xdr.proofs.Laws.{gives_found, gives_only}
use Rattle.scp_xdr.proofs.Passes.{faults_from}
use Rattle.scp_xdr.proofs.xdr.decode.Goals as goal

pub returns-clause-found : goal.returns-clause-found
returns-clause-found g c = gives_found g.T.Xdr.kind g.T.Xdr.value c.args.bytes.now c.read_whole.result (λ i. omega (arith, c.type_inv.bytes i)) c.read_whole.ensures

pub returns-clause-only : goal.returns-clause-only
returns-clause-only g c = λ v s. gives_only g.T.Xdr.kind g.T.Xdr.value c.args.bytes.now c.read_whole.result v s c.read_whole.ensures

pub returns-in_err-check-clause-only : goal.returns-in_err-check-clause-only
returns-in_err-check-clause-only g c =
    let p = err_from_is_err_and c.from_residual.result c.from_residual.ensures.1 in
    let exact : Gives g.T.Xdr.value c.from_residual.result (reading_whole g.T.Xdr.kind c.args.bytes.now) = rw (p.1, p.2) (λ other. c.in_err-check.ensures.exact) in
    λ v s. gives_only g.T.Xdr.kind g.T.Xdr.value c.args.bytes.now c.from_residual.result v s exact

pub returns-clause-faults : goal.returns-clause-faults
returns-clause-faults g c = faults_from g.T.Xdr.kind g.T.Xdr.value c.args.bytes.now c.read_whole.result c.read_whole.ensures
