use Rattle.scp_outbox.specs.inside.Outbox.{outbox_view}
use Rattle.scp_outbox.proofs.Kept.{pushed_known}
use Rattle.scp_outbox.proofs.outbox.Outbox.put_other.Goals as goal

pub invariant_of-self : goal.invariant_of-self
invariant_of-self c =
    let pushed = pushed_known (outbox_view c.self.inside) c.args.message c.self.inside.ring.capacity c.push_back.new.self c.self.invariant.ring c.push_back.ensures.items c.self.invariant.known c.requires.fits in
    record {
      marks = c.self.invariant.marks;
      ring = pushed.capacity;
      statements = c.self.invariant.statements;
      known = pushed.known;
    }

pub returns-clause-known : goal.returns-clause-known
returns-clause-known c =
    (pushed_known (outbox_view c.self.inside) c.args.message c.self.inside.ring.capacity c.push_back.new.self c.self.invariant.ring c.push_back.ensures.items c.self.invariant.known c.requires.fits).known
