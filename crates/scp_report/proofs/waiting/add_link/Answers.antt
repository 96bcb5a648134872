use Rattle.std.proofs.Common.{◌+◌, ◌∙◌, ◌++◌, ap, sym, append_assoc, flat_map, ℕ}
use Rattle.scp_core.specs.scp_types.specs.declared.names.NodeId.{NodeId}
use Rattle.scp_core.specs.scp_wire.specs.Connections.{conn_at}
use Rattle.scp_script.specs.Nodes.{numbers}
use Rattle.scp_report.specs.Waiting.{parked_of}
use Rattle.scp_report.proofs.Numbers.{one_more}
use Rattle.scp_report.proofs.waiting.add_link.Goals as goal

pub loop-index-preserved : goal.loop-index-preserved
loop-index-preserved c =
    let i = c.loop-index.index in
    let v = c.args.node.now in
    let f = λ (life : ℕ). parked_of v (conn_at c.args.peer.now v.config.me life) in
    c.in_ok-add.ensures
    ∙ ap (λ (m : NodeId). c.loop-index.parked.items ++ parked_of v (conn_at c.args.peer.now m (i + 1))) c.me-me.ensures
    ∙ ap (λ l. l ++ f (i + 1)) c.loop-index.invariant
    ∙ append_assoc c.args.parked.now.items (flat_map f (numbers i)) (f (i + 1))
    ∙ ap (λ l. c.args.parked.now.items ++ l) (sym (one_more f i))
