use Rattle.std.proofs.Common.{◌≡◌, false, List, map, arith, sym, ◌∙◌, ap, subst}
use Rattle.std.specs.List.{All, Any, Contains}
use Rattle.std.proofs.lemmas.List.Sorted.{length_permutation}
use Rattle.std.proofs.lemmas.Grind.{common_steps}
use Rattle.scp_quorum.specs.scp_types.specs.declared.names.NodeId.{NodeId}
use Rattle.scp_quorum.specs.NodeSet.{is_in}
use Rattle.scp_quorum_search.specs.declared.order.Ranked.{Ranked}
use Rattle.scp_quorum_search.proofs.Ordering.{each_moved, honest_moved, all_moved}
use Rattle.scp_quorum_search.proofs.order.in_order.Goals as goal

pub returns-clause-each : goal.returns-clause-each
returns-clause-each c =
    let nodes : c.in_ok-nodes.nodes.items ≡ map (λ (r : Ranked). r.node) c.sort_by_key.new.self.items = c.in_ok-nodes.ensures ∙ ap (map (λ (r : Ranked). r.node)) c.as_slice.ensures.value in
    let P : List NodeId → Type 0 = λ vs. All (λ v. Any (λ m. m.node ≡ v) c.args.members.now) vs in
    subst P (sym nodes) (each_moved (is_in c.args.liars.now) c.args.members.now c.in_ok-found.found.items c.sort_by_key.new.self.items c.sort_by_key.ensures.permutation c.in_ok-found.ensures.each)

pub returns-clause-honest : goal.returns-clause-honest
returns-clause-honest c =
    let nodes : c.in_ok-nodes.nodes.items ≡ map (λ (r : Ranked). r.node) c.sort_by_key.new.self.items = c.in_ok-nodes.ensures ∙ ap (map (λ (r : Ranked). r.node)) c.as_slice.ensures.value in
    let P : List NodeId → Type 0 = λ vs. All (λ v. is_in c.args.liars.now v ≡ false) vs in
    subst P (sym nodes) (honest_moved (is_in c.args.liars.now) c.args.members.now c.in_ok-found.found.items c.sort_by_key.new.self.items c.sort_by_key.ensures.permutation c.in_ok-found.ensures.honest)

pub returns-clause-all : goal.returns-clause-all
returns-clause-all c =
    let nodes : c.in_ok-nodes.nodes.items ≡ map (λ (r : Ranked). r.node) c.sort_by_key.new.self.items = c.in_ok-nodes.ensures ∙ ap (map (λ (r : Ranked). r.node)) c.as_slice.ensures.value in
    let P : List NodeId → Type 0 = λ vs. All (λ m. is_in c.args.liars.now m.node ≡ false → Contains vs m.node) c.args.members.now in
    subst P (sym nodes) (all_moved (is_in c.args.liars.now) c.args.members.now c.in_ok-found.found.items c.sort_by_key.new.self.items c.sort_by_key.ensures.permutation c.in_ok-found.ensures.all)

pub returns-clause-no_more : goal.returns-clause-no_more
returns-clause-no_more c =
    let nodes : c.in_ok-nodes.nodes.items ≡ map (λ (r : Ranked). r.node) c.sort_by_key.new.self.items = c.in_ok-nodes.ensures ∙ ap (map (λ (r : Ranked). r.node)) c.as_slice.ensures.value in
    let same = length_permutation c.in_ok-found.found.items c.sort_by_key.new.self.items c.sort_by_key.ensures.permutation in
    let few = c.in_ok-found.ensures.no_more in
    grind (arith, common_steps, nodes, same, few)
