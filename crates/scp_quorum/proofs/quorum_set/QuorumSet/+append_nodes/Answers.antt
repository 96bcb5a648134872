use Rattle.std.proofs.Common.{arith, ◌≡◌, sym, ◌∙◌, ap, ◌++◌, take, append_assoc}
use Rattle.std.proofs.lemmas.Grind.{common_steps}
use Rattle.std.specs.List.{flat_map}
use Rattle.scp_xdr.specs.Tree.{in_a_row}
use Rattle.scp_quorum.specs.Sane.{row_nodes}
use Rattle.scp_quorum.specs.Sane.{all_nodes}
use Rattle.scp_quorum.proofs.Rows.{row_nodes-in_a_row}
use Rattle.scp_quorum.proofs.quorum_set.QuorumSet.+append_nodes.Goals as goal

pub returns : goal.returns
returns t c =
    let all : take c.loop-inner.inner-index c.deref-inner-items.result.now ≡ c.self.inside.inner_sets.items = grind (arith, common_steps) in
    let rest : flat_map all_nodes (take c.loop-inner.inner-index c.deref-inner-items.result.now) ≡ row_nodes (in_a_row c.self.inside.inner_sets.items) =
    ap (flat_map all_nodes) all ∙ sym (row_nodes-in_a_row c.self.inside.inner_sets.items)
    in
    let first : c.extend_from_slice.new.self.items ≡ c.args.nodes.now.items ++ c.self.inside.validators.items = grind (arith, common_steps) in
    rw (← c.self.view_is)
    (c.loop-inner.invariant.so_far ∙ ap (λ vs. c.extend_from_slice.new.self.items ++ vs) rest ∙ ap (λ vs. vs ++ row_nodes (in_a_row c.self.inside.inner_sets.items)) first ∙ append_assoc c.args.nodes.now.items c.self.inside.validators.items (row_nodes (in_a_row c.self.inside.inner_sets.items)))
