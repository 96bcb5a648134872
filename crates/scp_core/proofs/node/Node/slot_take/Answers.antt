use Rattle.std.proofs.Common.{rules, ◌∙◌, ap, refl}
use Rattle.scp_core.specs.Node.{NodeView}
use Rattle.scp_core.proofs.Handlers.{slot-step}
use Rattle.scp_core.proofs.node.Node.slot_take.Goals as goal

pub returns : goal.returns
returns g c = rw (← c.self.view_is) (slot-step g.A.Driver.says _ _ c.self.inside.decider c.take.new.self c.in-Some.ready c.next.new.queue.items c.take.result refl (rw c.next.ensures.room refl) (ap (λ (v : NodeView _). v.failed) c.self.view_is ∙ c.requires) (search rules) c.in-Some.ensures.item c.take.ensures)
