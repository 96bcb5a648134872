use Rattle.std.proofs.Common.{rules, ◌∙◌, ap, refl}
use Rattle.scp_core.specs.Node.{NodeView}
use Rattle.scp_core.proofs.Handlers.{read-kept, read-failed}
use Rattle.scp_core.proofs.node.Node.reader_take.Goals as goal

pub returns-else-is_no_memory : goal.returns-else-is_no_memory
returns-else-is_no_memory g c = rw (← c.self.view_is) (read-kept g.A.Driver.says _ c.args.link _ _ (search rules) (ap (λ (v : NodeView _). v.failed) c.self.view_is ∙ c.requires) c.read-reply.ensures)

pub returns-then-is_no_memory : goal.returns-then-is_no_memory
returns-then-is_no_memory g c = rw (← c.self.view_is) (read-failed g.A.Driver.says _ _ c.args.link _ _ (search rules) (ap (λ (v : NodeView _). v.failed) c.self.view_is ∙ c.requires) c.read-reply.ensures (rw c.fail.ensures refl))
