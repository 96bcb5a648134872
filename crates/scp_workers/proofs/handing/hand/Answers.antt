use Rattle.std.proofs.Common.{subst}
use Rattle.scp_theorem.specs.scp_wire.specs.declared.message.Message.{Message}
use Rattle.scp_workers.specs.inside.Handing.{PutsAt}
use Rattle.scp_workers.proofs.Outlets.{at_same, at_puts}
use Rattle.scp_workers.proofs.handing.hand.Goals as goal

pub returns : goal.returns
returns g c =
    let put = subst (λ (m : Message). PutsAt c.args.outlets.now.items c.args.link m c.put_at.new.outlets.items) c.of.ensures.same c.put_at.ensures in
    record {
      same = at_same c.args.outlets.now.items c.args.link c.args.message c.put_at.new.outlets.items put;
      puts = at_puts c.args.outlets.now.items c.args.link c.args.message c.put_at.new.outlets.items put;
    }
