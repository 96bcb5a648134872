use Rattle.std.proofs.Common.{rules, ◌≡◌, refl, sym, subst, inl, inr, None}
use Rattle.scp_theorem.specs.scp_pending.specs.Pends.{IsIdle}
use Rattle.scp_core.proofs.Handlers.{is_idle}
use Rattle.scp_core.proofs.node.Node.pend_take.Goals as goal

pub returns-in-Some : goal.returns-in-Some
returns-in-Some g c = (c.requires, (search rules, inl (record { thing = c.in-Some.ready; after' = c.next_ready.new.self; passes = rw (← c.self.view_is) c.in-Some.ensures.passes; same = rw (← c.self.view_is) c.in-Some.ensures.same; is = rw (← c.self.view_is) refl })))

pub returns-in-Ok : goal.returns-in-Ok
returns-in-Ok g c =
    let none : c.next_ready.result ≡ None = search rules in
    let same : c.next_ready.new.self ≡ c.self.inside.pending = c.next_ready.ensures.unchanged none in
    (c.requires, (search rules, inr (record { x = c.in-Some-next.item; rest = c.next.new.queue.items; inbox = rw (← c.self.view_is) c.in-Some-next.ensures.item; nothing_ready = rw (← c.self.view_is) (is_idle c.self.inside.pending c.next_ready.result none c.next_ready.ensures.settled); between = c.take.new.self; after' = c.next_ready-in-Ok.new.self; thing = c.next_ready-in-Ok.result; rules = rw (← c.self.view_is, ← same) c.in-Ok.ensures.rules; takes = rw (← c.self.view_is, ← same) c.in-Ok.ensures.passes; same = c.next_ready-in-Ok.ensures.same; gives = c.next_ready-in-Ok.ensures.passes; no_thing = λ nothing. subst IsIdle (sym (c.next_ready-in-Ok.ensures.unchanged nothing)) (is_idle c.take.new.self c.next_ready-in-Ok.result nothing c.next_ready-in-Ok.ensures.settled); hands = rw (← c.self.view_is, ← same, ← c.in-Ok.ensures.reply) c.hand_out.ensures; is = rw (← c.self.view_is, c.next.ensures.room) refl })))
