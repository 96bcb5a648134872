use Rattle.std.proofs.Common.{sym, subst}
use Rattle.scp_ledger.specs.scp_wire.specs.Tails.{GoesNext}
use Rattle.scp_ends.specs.Links.{LinkEnd, stands}
use Rattle.scp_ends.proofs.Tails.{grown}
use Rattle.scp_ends.proofs.tail.LinkTx.push.Goals as goal

pub invariant_of-self : goal.invariant_of-self
invariant_of-self g c =
    let k : LinkEnd = record { from = c.self.inside.from; to = c.self.inside.to; tail = c.self.inside.tail } in
    let next : GoesNext k.from k.to (stands k) c.args.next = subst (λ (e : LinkEnd). GoesNext e.from e.to (stands e) c.args.next) (sym c.self.view_is) c.requires.next in
    grown c.a_beginning_keeps_the_shape.ensures.more k c.args.next c.send_as.new.self c.self.invariant.0 c.in-Ok.ensures next
