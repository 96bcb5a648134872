use Rattle.scp_xdr.proofs.Each.{each_fits}
use Rattle.scp_xdr.proofs.xdr.write_numbered.Goals as goal

pub write_times-requires : goal.write_times-requires
write_times-requires g c = each_fits g.T.Xdr.kind g.T.Xdr.value c.args.items.now c.requires.5
