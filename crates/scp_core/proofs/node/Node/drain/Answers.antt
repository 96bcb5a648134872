use Rattle.std.proofs.Common.{rules, ◌∙◌, ap, refl}
use Rattle.scp_core.specs.Node.{NodeView}
use Rattle.scp_core.proofs.Handlers.{drain-kept, drain-failed}
use Rattle.scp_core.proofs.node.Node.drain.Goals as goal

pub returns-else-is_no_memory : goal.returns-else-is_no_memory
returns-else-is_no_memory g c = rw (← c.self.view_is) (drain-kept g.A.Driver.says _ c.args.link _ _ (search rules) (ap (λ (v : NodeView _). v.failed) c.self.view_is ∙ c.requires) c.draw-sent.ensures)

pub returns-then-is_no_memory : goal.returns-then-is_no_memory
returns-then-is_no_memory g c = rw (← c.self.view_is) (drain-failed g.A.Driver.says _ _ c.args.link _ _ (search rules) (ap (λ (v : NodeView _). v.failed) c.self.view_is ∙ c.requires) c.draw-sent.ensures (rw c.fail.ensures refl))
