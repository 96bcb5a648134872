use Rattle.std.proofs.Common.{◌≡◌, List, sym, ◌∙◌, subst}
use Rattle.std.specs.List.{Contains}
use Rattle.std.proofs.lemmas.Bool.{OnTrue_from}
use Rattle.std.proofs.lemmas.Slice.Eq.{bytes_eq-Decides}
use Rattle.scp_xdr.specs.scp_types.specs.declared.names.NodeId.{NodeId}
use Rattle.scp_quorum.proofs.Table.{contains_found}
use Rattle.scp_quorum.proofs.quorum.table.NodeTable.is_at.Goals as goal

pub returns-in-Some : goal.returns-in-Some
returns-in-Some c =
    let found = c.in-Some.found.now in
    let node = c.args.node.now in
    let P : List NodeId → Type 0 = λ nodes. Contains nodes node in
    OnTrue_from c.eq.result _
    (λ e.
    let bytes : found.0 ≡ node.0 = (bytes_eq-Decides found.0 node.0).0 (sym c.eq.ensures ∙ e) in
    subst P c.deref.ensures.value (contains_found c.deref.result.now c.args.place found node c.in-Some.ensures.lookup.3.0 (c.in-Some.ensures.lookup.3.1 node) bytes))
