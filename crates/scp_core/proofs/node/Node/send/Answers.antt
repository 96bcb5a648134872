use Rattle.std.proofs.Common.{◌∙◌, ap, sym, subst}
use Rattle.scp_theorem.specs.scp_types.specs.declared.names.NodeId.{NodeId}
use Rattle.scp_core.specs.History.{peer_at}
use Rattle.scp_core.specs.Node.{NodeView}
use Rattle.scp_core.specs.inside.Links.{Sends, OnLinks}
use Rattle.scp_core.proofs.Handlers.{send-step}
use Rattle.scp_core.proofs.node.Node.send.Goals as goal

pub returns : goal.returns
returns g c =
    let from = c.peer-from.ensures ∙ ap (λ (v : NodeView _). peer_at v.config c.args.link) (sym c.self.view_is) in
    rw (← c.self.view_is) (send-step g.A.Driver.says _ c.args.link c.args.bytes _ _ (ap (λ (v : NodeView _). v.failed) c.self.view_is ∙ c.requires) (subst (λ (q : NodeId). OnLinks (Sends q c.self.inside.me c.args.bytes) c.self.inside.links.items c.args.link c.send.result c.send.new.links.items) from c.send.ensures))
