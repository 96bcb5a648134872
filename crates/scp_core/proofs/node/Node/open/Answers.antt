use Rattle.std.proofs.Common.{◌∙◌, ap, sym, subst}
use Rattle.scp_theorem.specs.scp_types.specs.declared.names.NodeId.{NodeId}
use Rattle.scp_core.specs.History.{peer_at}
use Rattle.scp_core.specs.Node.{NodeView}
use Rattle.scp_core.specs.inside.Links.{Opens, OnLinks}
use Rattle.scp_core.proofs.Handlers.{open-step}
use Rattle.scp_core.proofs.node.Node.open.Goals as goal

pub returns : goal.returns
returns g c =
    let from = c.peer-from.ensures ∙ ap (λ (v : NodeView _). peer_at v.config c.args.link) (sym c.self.view_is) in
    rw (← c.self.view_is) (open-step g.A.Driver.says _ c.args.link _ _ (ap (λ (v : NodeView _). v.failed) c.self.view_is ∙ c.requires) (subst (λ (q : NodeId). OnLinks (Opens q c.self.inside.me) c.self.inside.links.items c.args.link c.open.result c.open.new.links.items) from c.open.ensures))
