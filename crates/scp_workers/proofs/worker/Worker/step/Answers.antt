use Rattle.std.proofs.Common.{◌∙◌, [], ◌∷◌, ◌++◌, ap, arith}
use Rattle.scp_ends.specs.Order.{number_of, values}
use Rattle.scp_workers.proofs.Running.{fits_all, fits_still, may_take, ran_one, ran_stop}
use Rattle.scp_workers.proofs.Stopping.{flags_one, flags_stop}
use Rattle.scp_workers.proofs.worker.Worker.step.Goals as goal

pub take_or_lose-self-inside-requires-clause-may : goal.take_or_lose-self-inside-requires-clause-may
take_or_lose-self-inside-requires-clause-may g c = λ kept.
    let w = c.self.inside in
    may_take g.S.Stage.runs g.S.Stage.rests g.L.Law.fits w.rx.got c.in-One.field-0 c.in-One.thing c.in-Ok.item w.first.value w.stage w.tx c.receive.new.tx w.outlets.items c.receive.ensures.same c.in-One.is
    (fits_all g.L.Law.fits w.rx (values (w.rx.got ++ c.in-Ok.item ∷ [])) c.self.invariant.5 (λ one. c.in-Ok.ensures.alone one)) (c.self.invariant.2 kept)

pub invariant_of-self-in-One : goal.invariant_of-self-in-One
invariant_of-self-in-One g c =
    let w = c.self.inside in
    let many = ap (λ r. r.producers) c.in-Ok.ensures.received.0 in
    let now = ap (λ r. r.got) c.in-Ok.ensures.received.0 ∙ ap (λ x. w.rx.got ++ x ∷ []) c.in-One.is in (
      many ∙ c.self.invariant.0,
      c.self.invariant.1,
      λ kept. let done = c.take_or_lose-self-inside.ensures.takes kept in
          ran_one g.S.Stage.runs g.S.Stage.rests w.rx.got c.receive.new.rx.got c.in-One.field-0 c.in-One.thing w.first.value w.stage c.take_or_lose-self-inside.new.stage w.tx c.receive.new.tx _ w.outlets.items _ c.receive.ensures.same now (c.self.invariant.2 done.0) done.1 done.2,
      flags_one w.stops w.rx.got _ c.in-One.field-0 c.in-One.thing c.self.invariant.3 now,
      λ cut. c.take_or_lose-self-inside.ensures.lost (c.self.invariant.4 cut),
      fits_still g.L.Law.fits w.rx c.receive.new.rx many c.self.invariant.5,
    )

pub invariant_of-self-in-Stop : goal.invariant_of-self-in-Stop
invariant_of-self-in-Stop g c =
    let w = c.self.inside in
    let many = ap (λ r. r.producers) c.in-Ok.ensures.received.0 in
    let now = ap (λ r. r.got) c.in-Ok.ensures.received.0 ∙ ap (λ x. w.rx.got ++ x ∷ []) c.in-Stop.is in (
      many ∙ c.self.invariant.0,
      c.self.invariant.1,
      λ kept. ran_stop g.S.Stage.runs g.S.Stage.rests w.rx.got c.receive.new.rx.got c.in-Stop.number w.first.value w.stage w.tx c.receive.new.tx w.outlets.items c.receive.ensures.same now (c.self.invariant.2 kept),
      (let told = c.self.told in let number = ap number_of c.in-Stop.is in let below = c.in-Ok.ensures.received.1 in let made = c.self.invariant.0 in let most = c.self.invariant.1 in
          flags_stop w.stops w.rx.got _ c.in-Stop.number (omega arith) c.self.invariant.3 now),
      c.self.invariant.4,
      fits_still g.L.Law.fits w.rx c.receive.new.rx many c.self.invariant.5,
    )
