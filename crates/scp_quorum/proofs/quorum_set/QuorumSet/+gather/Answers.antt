use Rattle.std.proofs.Common.{◌≡◌, ◌≤◌, ◌+◌, ◌++◌, List, take, length, sym, ◌∙◌, ap, arith, append_assoc}
use Rattle.std.specs.List.{flat_map}
use Rattle.std.proofs.lemmas.Grind.{common_steps}
use Rattle.std.proofs.lemmas.List.{length-append}
use Rattle.std.proofs.lemmas.List.Folds.{length-flat_map-take}
use Rattle.scp_xdr.specs.scp_types.specs.declared.names.NodeId.{NodeId}
use Rattle.scp_xdr.specs.Tree.{in_a_row}
use Rattle.scp_quorum.specs.Sane.{row_nodes, all_nodes}
use Rattle.scp_quorum.proofs.Rows.{row_nodes-in_a_row}
use Rattle.scp_quorum.proofs.quorum_set.QuorumSet.+gather.Goals as goal

pub returns-in_err-count-2-clause-full : goal.returns-in_err-count-2-clause-full
returns-in_err-count-2-clause-full t c =
    let qs = c.self.inside.inner_sets.items in
    let vs = c.self.inside.validators.items in
    let one : length (flat_map all_nodes (take c.loop-inner.inner-index c.deref-inner-items.result.now)) + length (all_nodes c.inner-item.result) ≤ length (flat_map all_nodes c.deref-inner-items.result.now) =
    rw c.inner-item.is (length-flat_map-take all_nodes c.deref-inner-items.result.now c.loop-inner.inner-index c.inner-item.result c.loop-inner-test.true)
    in
    let rest : flat_map all_nodes c.deref-inner-items.result.now ≡ row_nodes (in_a_row qs) = ap (flat_map all_nodes) c.deref-inner-items.ensures.value ∙ sym (row_nodes-in_a_row qs) in
    rw (c.from_residual-in_err-count-2.ensures, ← c.self.view_is)
    (omega (arith, one, ap length rest, length-append vs (row_nodes (in_a_row qs)), ap length c.deref.ensures.value, c.in_err-count-2.ensures.full, c.loop-inner.invariant.count, c.in_ok-count.ensures.count, c.loop-inner.auto.nodes))

pub returns-clause-count : goal.returns-clause-count
returns-clause-count t c =
    let qs = c.self.inside.inner_sets.items in
    let vs = c.self.inside.validators.items in
    let all : take c.loop-inner.inner-index c.deref-inner-items.result.now ≡ qs = grind (arith, common_steps) in
    let rest : flat_map all_nodes (take c.loop-inner.inner-index c.deref-inner-items.result.now) ≡ row_nodes (in_a_row qs) = ap (flat_map all_nodes) all ∙ sym (row_nodes-in_a_row qs) in
    rw (← c.self.view_is)
    (omega (arith, ap length rest, length-append vs (row_nodes (in_a_row qs)), ap length c.deref.ensures.value, c.loop-inner.invariant.count, c.in_ok-count.ensures.count))

pub returns-clause-front : goal.returns-clause-front
returns-clause-front t c =
    let qs = c.self.inside.inner_sets.items in
    let vs = c.self.inside.validators.items in
    let old = take c.args.len c.args.nodes.now in
    let all : take c.loop-inner.inner-index c.deref-inner-items.result.now ≡ qs = grind (arith, common_steps) in
    let rest : flat_map all_nodes (take c.loop-inner.inner-index c.deref-inner-items.result.now) ≡ row_nodes (in_a_row qs) = ap (flat_map all_nodes) all ∙ sym (row_nodes-in_a_row qs) in
    let first : take c.in_ok-count.count c.put.new.nodes ≡ old ++ vs = c.in_ok-count.ensures.front ∙ ap (λ (ws : List NodeId). old ++ ws) c.deref.ensures.value in
    rw (← c.self.view_is)
    (c.loop-inner.invariant.front ∙ ap (λ (ws : List NodeId). take c.in_ok-count.count c.put.new.nodes ++ ws) rest ∙ ap (λ (ws : List NodeId). ws ++ row_nodes (in_a_row qs)) first ∙ append_assoc old vs (row_nodes (in_a_row qs)))
