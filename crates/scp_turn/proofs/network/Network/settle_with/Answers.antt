use Rattle.std.proofs.Common.{◌∙◌, Bool, List, ap, subst}
use Rattle.scp_turn.specs.Watch.{notes}
use Rattle.scp_turn.specs.Heard.{Nodes, Noted}
use Rattle.scp_turn.specs.Network.{Settled}
use Rattle.scp_turn.proofs.network.Network.settle_with.Goals as goal

pub returns-clause-settled : goal.returns-clause-settled
returns-clause-settled g c =
    let Also = Noted (notes g.W.Watch.notes_before g.W.Watch.notes_after) c.args.watch.now c.settle.new.watch in
    let new = c.settle.new.nodes.items in
    subst (λ (driven : List Bool). Settled Also driven c.args.self.now.nodes c.settle.result new) (c.as_slice.ensures.value ∙ ap (λ v. v.driven) c.self.view_is)
    (subst (λ (old : Nodes). Settled Also c.as_slice.result.now old c.settle.result new) (ap (λ v. v.nodes) c.self.view_is) c.settle.ensures)
