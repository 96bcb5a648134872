use Rattle.std.proofs.Common.{◌≡◌, List, Ok, sym, subst}
use Rattle.std.specs.Prelude.{IsTrue}
use Rattle.std.specs.List.{All}
use Rattle.std.proofs.lemmas.Iterator.{items_from_collect}
use Rattle.std.proofs.lemmas.Iterator.Consumers.{YieldsList-from_copied, YieldsList-from_rest, YieldsList-at}
use Rattle.scp_xdr.specs.scp_types.specs.declared.names.NodeId.{NodeId}
use Rattle.scp_quorum.specs.NodeSet.{is_in}
use Rattle.scp_quorum.proofs.quorum.table.NodeTable.of.Goals as goal

pub returns : goal.returns
returns c =
    let P : List NodeId → Type 0 = λ vs. All (λ v. IsTrue (is_in c.args.nodes.now v)) vs in
    let items : c.in_ok-nodes.nodes.items ≡ c.args.nodes.now.keys =
    items_from_collect {E = Unit {0}} (Ok c.in_ok-nodes.nodes) c.in_ok-nodes.ensures.ran (YieldsList-from_copied (YieldsList-at c.copied.ensures.source (YieldsList-from_rest c.args.nodes.now.keys c.iter.ensures.rest)))
    in
    subst P (sym items) c.iter.ensures.found
