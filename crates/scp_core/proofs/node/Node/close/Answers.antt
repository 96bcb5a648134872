use Rattle.std.proofs.Common.{◌∙◌, ap, sym, subst}
use Rattle.scp_theorem.specs.scp_types.specs.declared.names.NodeId.{NodeId}
use Rattle.scp_core.specs.History.{peer_at}
use Rattle.scp_core.specs.Node.{NodeView}
use Rattle.scp_core.specs.inside.Links.{Closes, OnLinks}
use Rattle.scp_core.proofs.Handlers.{close-step}
use Rattle.scp_core.proofs.node.Node.close.Goals as goal

pub returns : goal.returns
returns g c =
    let from = c.peer-from.ensures ∙ ap (λ (v : NodeView _). peer_at v.config c.args.link) (sym c.self.view_is) in
    rw (← c.self.view_is) (close-step g.A.Driver.says _ c.args.link _ _ (ap (λ (v : NodeView _). v.failed) c.self.view_is ∙ c.requires) (subst (λ (q : NodeId). OnLinks (Closes q c.self.inside.me) c.self.inside.links.items c.args.link c.close.result c.close.new.links.items) from c.close.ensures))
