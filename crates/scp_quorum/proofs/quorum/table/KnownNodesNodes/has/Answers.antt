use Rattle.std.proofs.Common.{◌≡◌, sym, ◌∙◌, ap, true}
use Rattle.std.specs.Prelude.{IsTrue}
use Rattle.std.specs.BTreeSet.{BTreeSet}
use Rattle.std.proofs.lemmas.List.Elements.{All-contains}
use Rattle.scp_xdr.specs.scp_types.specs.declared.names.NodeId.{NodeId}
use Rattle.scp_quorum.specs.NodeSet.{is_in}
use Rattle.scp_quorum.proofs.Table.{from_some}
use Rattle.scp_quorum.proofs.quorum.table.KnownNodesNodes.has.Goals as goal

pub returns-then-is_some : goal.returns-then-is_some
returns-then-is_some c =
    let node = c.args.node.now in
    let there = from_some c.slotted_place_of.result _ (sym c.is_some.ensures ∙ c.if-is_some.true) c.slotted_place_of.ensures in
    let found : is_in c.self.inside.nodes.now node ≡ true = All-contains (λ v. IsTrue (is_in c.self.inside.nodes.now v)) c.self.inside.table.nodes.items node c.self.invariant there in
    c.if-is_some.true ∙ sym found ∙ ap (λ (nodes : BTreeSet NodeId). is_in nodes node) c.self.view_is
