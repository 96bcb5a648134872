use Rattle.std.proofs.Common.{◌≡◌, ◌↔◌, List, true, Ok, Contains, sym, subst}
use Rattle.std.specs.List.Sorted.{IsStrictlySortedBy}
use Rattle.std.proofs.lemmas.Iterator.{items_from_collect}
use Rattle.std.proofs.lemmas.Iterator.Consumers.{YieldsList-from_copied, YieldsList-from_rest, YieldsList-at}
use Rattle.std.proofs.lemmas.Map.Views.{btree_set_contains_iff}
use Rattle.scp_slot.specs.scp_types.specs.declared.names.NodeId.{NodeId}
use Rattle.scp_slot.specs.scp_quorum.specs.NodeSet.{node_cmp, is_in}
use Rattle.scp_stand_slot.proofs.Same.{node_total, node_exact}
use Rattle.scp_stand_slot.proofs.facts.list_of.Goals as goal

pub returns-clause-these : goal.returns-clause-these
returns-clause-these c =
    let items : c.in_ok-list.list.items ≡ c.args.nodes.now.keys =
    items_from_collect {E = Unit {0}} (Ok c.in_ok-list.list) c.in_ok-list.ensures.ran (YieldsList-from_copied (YieldsList-at c.copied.ensures.source (YieldsList-from_rest c.args.nodes.now.keys c.iter.ensures.rest)))
    in
    subst (λ (vs : List NodeId). (v : NodeId) → Contains vs v ↔ (is_in c.args.nodes.now v ≡ true)) (sym items)
    (λ v. let h = btree_set_contains_iff node_total node_exact c.args.nodes.now v in (h.1, h.0))

pub returns-clause-ascending : goal.returns-clause-ascending
returns-clause-ascending c =
    let items : c.in_ok-list.list.items ≡ c.args.nodes.now.keys =
    items_from_collect {E = Unit {0}} (Ok c.in_ok-list.list) c.in_ok-list.ensures.ran (YieldsList-from_copied (YieldsList-at c.copied.ensures.source (YieldsList-from_rest c.args.nodes.now.keys c.iter.ensures.rest)))
    in
    subst (λ (vs : List NodeId). IsStrictlySortedBy node_cmp vs) (sym items) c.iter.ensures.ordered
