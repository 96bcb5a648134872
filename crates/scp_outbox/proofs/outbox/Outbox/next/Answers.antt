use Rattle.std.proofs.Common.{All, length, ap, sym, subst, arith, ◌∙◌}
use Rattle.std.proofs.lemmas.List.Elements.{All-nil}
use Rattle.scp_wire.specs.Fitting.{IsFitting}
use Rattle.scp_outbox.specs.Outbox.{IsOutbox}
use Rattle.scp_outbox.specs.inside.Outbox.{outbox_view}
use Rattle.scp_outbox.proofs.Kept.{ring_leaves_known, leaves_known}
use Rattle.scp_outbox.proofs.outbox.Outbox.next.Goals as goal

ring_left : (c : goal.In-Some-take_front) → IsOutbox (record { live = c.self.inside.live; marks = c.take_front.new.items.items; ring = c.take_front-2.new.items.items; statements = c.self.inside.statements.items; overwritten = c.self.inside.overwritten })
ring_left c =
    let rest = ring_leaves_known (outbox_view c.self.inside) c.in-Some-take_front.message c.take_front-2.new.items.items c.in-Some-take_front.ensures.taken c.self.invariant.known in
    let no_marks = ap length c.in_default.ensures.taken.1 in
    record { marks = omega (arith, no_marks); ring = rest.ring; statements = rest.statements; one_each = rest.one_each; ring_fits = rest.ring_fits; statements_fit = rest.statements_fit }

statements_left : (c : goal.In-Some-take_front-2) → IsOutbox (record { live = c.self.inside.live; marks = c.take_front.new.items.items; ring = c.take_front-2.new.items.items; statements = c.take_front-3.new.items.items; overwritten = c.self.inside.overwritten })
statements_left c =
    let rest = leaves_known (outbox_view c.self.inside) c.in-Some-take_front-2.envelope c.take_front-3.new.items.items c.in-Some-take_front-2.ensures.taken c.self.invariant.known in
    let no_marks = ap length c.in_default.ensures.taken.1 in
    let no_ring = ap length c.in_default-take_front.ensures.taken.1 in
    record { marks = omega (arith, no_marks); ring = omega (arith, no_ring); statements = rest.statements; one_each = rest.one_each; ring_fits = subst (All IsFitting) (sym c.in_default-take_front.ensures.taken.1) (All-nil IsFitting); statements_fit = rest.statements_fit }

pub invariant_of-self-in-Some-take_front : goal.invariant_of-self-in-Some-take_front
invariant_of-self-in-Some-take_front c = record {
  marks = c.take_front.ensures.capacity ∙ c.self.invariant.marks;
  ring = c.take_front-2.ensures.capacity ∙ c.self.invariant.ring;
  statements = c.self.invariant.statements;
  known = ring_left c;
}

pub returns-in-Some-take_front-clause-known : goal.returns-in-Some-take_front-clause-known
returns-in-Some-take_front-clause-known c = ring_left c

pub invariant_of-self-in-Some-take_front-2 : goal.invariant_of-self-in-Some-take_front-2
invariant_of-self-in-Some-take_front-2 c = record {
  marks = c.take_front.ensures.capacity ∙ c.self.invariant.marks;
  ring = c.take_front-2.ensures.capacity ∙ c.self.invariant.ring;
  statements = c.take_front-3.ensures.capacity ∙ c.self.invariant.statements;
  known = statements_left c;
}

pub returns-in-Some-take_front-2-clause-known : goal.returns-in-Some-take_front-2-clause-known
returns-in-Some-take_front-2-clause-known c = statements_left c
