use Rattle.scp_workers.proofs.Carrying.{carried_then, spelt_then}
use Rattle.scp_workers.proofs.courier.Courier.take.Goals as goal

pub invariant_of-self : goal.invariant_of-self
invariant_of-self g c =
    let w = c.self.inside in
    let given = c.next-given.result in
    let now = c.next-given.new.self in
    let link = c.carry.new.link in
    let said = c.if-not-carry.ensures in (
      spelt_then given w.link link said.carries c.self.invariant.0,
      λ kept. carried_then w.taker now given w.link link c.next-given.ensures.given said.same (c.self.invariant.1 kept) said.carries,
    )
