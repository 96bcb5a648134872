use Rattle.std.proofs.Common.{nat_eq}
use Rattle.std.specs.Cmp.Lexicographic.{pointwise, texts_ties}
use Rattle.std.proofs.lemmas.Cmp.{nat_list_eq_equiv}
use Rattle.std.proofs.lemmas.List.Filters.{dedup_is}
use Rattle.scp_vote.specs.scp_types.specs.declared.names.NodeId.{NodeId}
use Rattle.scp_nominate.proofs.Turning.{in_turn}
use Rattle.scp_nominate.proofs.nodes.nodes_with.Goals as goal

pub returns-clause-nodes : goal.returns-clause-nodes
returns-clause-nodes c =
    in_turn (λ (x y : NodeId). pointwise nat_eq x.0 y.0) (record { refl = λ x. nat_list_eq_equiv.refl x.0; symm = λ x y. nat_list_eq_equiv.symm x.0 y.0; congr = λ x y z. nat_list_eq_equiv.congr x.0 y.0 z.0 }) (λ x y. texts_ties x.0 y.0) c.args.me c.args.set.now
    c.in_ok-nodes.nodes.items c.push.new.self.items c.sort.new.self.items c.dedup.new.self.items
    c.in_ok-nodes.ensures.all c.in_ok-push.ensures.items c.sort.ensures.permutation c.in_ok-sort.ensures.sorted (dedup_is (λ (x y : NodeId). pointwise nat_eq x.0 y.0) _ _ c.dedup.ensures.filtered)
