use Rattle.std.proofs.Common.{◌∙◌, List, map, take, sym, ap, arith}
use Rattle.std.specs.BTreeSet.{keys, insert_key}
use Rattle.scp_history.specs.scp_types.specs.declared.names.NodeId.{NodeId}
use Rattle.scp_history.specs.scp_quorum.specs.NodeSet.{node_cmp}
use Rattle.scp_history.specs.scp_envelope.specs.declared.statement.Envelope.{Envelope}
use Rattle.scp_history.specs.scp_judged.specs.Verdicts.{heard_of}
use Rattle.scp_history.specs.scp_judged.proofs.Saying.{taken_more, taken_all}
use Rattle.scp_shown.specs.Spoken.{nodes_heard}
use Rattle.scp_shown.proofs.Saying.{nodes_more}
use Rattle.scp_shown.proofs.nodes.set_of_nodes.Goals as goal

pub loop-said-preserved : goal.loop-said-preserved
loop-said-preserved c =
    let xs = c.args.joined.now in
    let i = c.loop-said.said-index in
    let x = c.said-item.result in
    let hs = map heard_of (take i xs) in
    c.in_ok-insert.ensures.keys
    ∙ ap (λ (e : Envelope). insert_key node_cmp (keys c.loop-said.nodes) e.statement.node) c.get.ensures
    ∙ ap (λ (l : List NodeId). insert_key node_cmp l x.envelope.statement.node) c.loop-said.invariant
    ∙ sym (nodes_more hs (heard_of x))
    ∙ ap nodes_heard (sym (taken_more xs i x (omega arith) c.said-item.is))

pub returns-clause-nodes : goal.returns-clause-nodes
returns-clause-nodes c = c.loop-said.invariant ∙ ap nodes_heard (taken_all c.args.joined.now c.loop-said.said-index (omega arith))
