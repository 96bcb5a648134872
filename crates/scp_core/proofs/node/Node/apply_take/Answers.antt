use Rattle.std.proofs.Common.{◌∙◌, ap, refl}
use Rattle.scp_core.specs.Node.{NodeView}
use Rattle.scp_core.specs.inside.Stops.{reply_of}
use Rattle.scp_core.proofs.Handlers.{apply-step, apply-refused}
use Rattle.scp_core.proofs.node.Node.apply_take.Goals as goal

pub returns-in-Ok : goal.returns-in-Ok
returns-in-Ok g c = rw (← c.self.view_is) (apply-step g.A.Driver.says _ _ c.self.inside.decider c.apply.new.self c.in-Ok.answer refl refl (ap (λ (v : NodeView _). v.failed) c.self.view_is ∙ c.requires) c.in-Ok.ensures.applies c.hand_out.ensures)

pub returns-in-Err : goal.returns-in-Err
returns-in-Err g c = rw (← c.self.view_is, c.reply.ensures) (apply-refused g.A.Driver.says _ _ c.self.inside.decider c.apply.new.self (reply_of c.in-Err.stop) refl refl (ap (λ (v : NodeView _). v.failed) c.self.view_is ∙ c.requires) c.in-Err.ensures.applies)
