use Rattle.scp_xdr.proofs.Within.{refused_where_long, is_within, written_where_short}
use Rattle.scp_xdr.proofs.xdr.encode_within.Goals as goal

pub returns-in_default-clause-too_long : goal.returns-in_default-clause-too_long
returns-in_default-clause-too_long g c = refused_where_long g.T.Xdr.kind (g.T.Xdr.value c.args.value.now) c.args.limit c.in_default.ensures

pub returns-clause-within : goal.returns-clause-within
returns-clause-within g c = is_within g.T.Xdr.kind (g.T.Xdr.value c.args.value.now) (λ bytes. bytes.items) c.args.limit c.in-Some.left c.write_whole.result c.in-Some.ensures c.write_whole.ensures.spells

pub returns-clause-too_long : goal.returns-clause-too_long
returns-clause-too_long g c = written_where_short g.T.Xdr.kind (g.T.Xdr.value c.args.value.now) c.args.limit c.in-Some.left c.write_whole.result (c.fits.ensures.0 c.if-not-fits.false) c.in-Some.ensures c.write_whole.ensures.only_memory
