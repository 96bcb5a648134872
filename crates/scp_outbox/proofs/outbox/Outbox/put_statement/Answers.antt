use Rattle.std.proofs.Common.{ℕ, subst, ap, ◌∙◌}
use Rattle.scp_outbox.specs.Outbox.{OutboxView, IsOutbox, Takes, counted}
use Rattle.scp_outbox.specs.inside.Outbox.{outbox_view}
use Rattle.scp_outbox.proofs.Kept.{takes_known}
use Rattle.scp_outbox.proofs.outbox.Outbox.put_statement.Goals as goal

pub invariant_of-self : goal.invariant_of-self
invariant_of-self c = record {
  marks = c.self.invariant.marks;
  ring = c.self.invariant.ring;
  statements = c.take_statement-lost.ensures.capacity;
  known = takes_known (outbox_view c.self.inside) c.args.envelope c.take_statement-lost.new.statements.items c.take_statement-lost.result _ c.self.invariant.known c.requires c.take_statement-lost.ensures.takes;
}

pub returns-clause-puts : goal.returns-clause-puts
returns-clause-puts c =
    let statements = c.take_statement-lost.new.statements.items in
    let lost = c.take_statement-lost.result in
    let takes : Takes c.args.self.now.statements c.args.envelope statements lost = subst (λ (v : OutboxView). Takes v.statements c.args.envelope statements lost) c.self.view_is c.take_statement-lost.ensures.takes in (
      statements,
      lost,
      takes,
      ap (λ (n : ℕ). record (outbox_view c.self.inside) { statements = statements; overwritten = n }) c.saturating_add-self-inside.ensures
          ∙ ap (λ (v : OutboxView). record v { statements = statements; overwritten = counted v.overwritten lost }) c.self.view_is,
    )

pub returns-clause-known : goal.returns-clause-known
returns-clause-known c = takes_known (outbox_view c.self.inside) c.args.envelope c.take_statement-lost.new.statements.items c.take_statement-lost.result _ c.self.invariant.known c.requires c.take_statement-lost.ensures.takes
