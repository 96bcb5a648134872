use Rattle.std.proofs.Common.{◌∙◌, ap}
use Rattle.scp_core.specs.inside.Draining.{empty_reply}
use Rattle.scp_core.proofs.Handlers.{draws_next, draws_nothing}
use Rattle.scp_core.proofs.handing.draw.Goals as goal

pub returns-in-Some : goal.returns-in-Some
returns-in-Some c = draws_next c.args.outboxes.now c.args.link c.in-Some.message c.next.new.self c.spell.result c.in-Some.ensures.gives c.spell.ensures

pub returns-in-None : goal.returns-in-None
returns-in-None c = draws_nothing c.args.outboxes.now c.args.link c.next.new.self c.empty.result (c.empty.ensures ∙ ap (λ n. empty_reply n c.args.link) c.len.ensures) c.in-None.ensures.gives
