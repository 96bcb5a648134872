use Rattle.std.proofs.Common.{◌≡◌, ◌↔◌, List, true, Ok, Contains, sym, ◌∙◌, ap, subst}
use Rattle.std.specs.Prelude.{is_some, IsSome}
use Rattle.std.specs.BTreeMap as node_map
use Rattle.std.proofs.lemmas.Iterator.{items_from_collect}
use Rattle.std.proofs.lemmas.Iterator.Consumers.{YieldsList-from_copied, YieldsList-from_rest, YieldsList-at}
use Rattle.std.proofs.lemmas.Map.Views.{btree_map_contains_key_iff}
use Rattle.scp_slot.specs.scp_types.specs.declared.names.NodeId.{NodeId}
use Rattle.scp_slot.specs.scp_quorum.specs.NodeSet.{node_cmp}
use Rattle.scp_slot.specs.scp_vote.specs.Seen.{seen}
use Rattle.scp_stand_slot.proofs.Same.{node_total, node_exact}
use Rattle.scp_stand_slot.proofs.Gathering.{some_mapped}
use Rattle.scp_stand_slot.proofs.facts.speakers.Goals as goal

pub returns : goal.returns
returns c =
    let map = c.statements.result.now in
    let items : c.in_ok-nodes.nodes.items ≡ node_map.keys map =
    items_from_collect {E = Unit {0}} (Ok c.in_ok-nodes.nodes) c.in_ok-nodes.ensures.ran (YieldsList-from_copied (YieldsList-at c.copied.ensures.source (YieldsList-from_rest (node_map.keys map) c.keys.ensures.rest)))
    in
    subst (λ (vs : List NodeId). (v : NodeId) → Contains vs v ↔ (is_some ((seen c.args.kind c.args.board.now).statement v) ≡ true)) (sym items)
    (λ v.
    let h = btree_map_contains_key_iff node_total node_exact map v in
    let e = ap is_some (sym (c.statements.ensures.pledges v)) ∙ some_mapped _ (node_map.get node_cmp map v) in
    (λ has. e ∙ h.1 has, λ some. h.0 (sym e ∙ some)))
