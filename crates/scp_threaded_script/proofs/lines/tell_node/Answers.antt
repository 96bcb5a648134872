use Rattle.std.proofs.Common.{◌≡◌, ◌∙◌, Some, ap, sym, arith}
use Rattle.std.specs.Prelude.{slice_get}
use Rattle.std.proofs.lemmas.Option.{slice_get-get_or}
use Rattle.scp_threaded_node.specs.scp_wire.specs.declared.link.Inbound.TheVariants as inbound
use Rattle.scp_threaded_node.specs.Kv.{Node}
use Rattle.scp_threaded_script.proofs.Doing.{one_told, one_same}
use Rattle.scp_threaded_script.proofs.lines.tell_node.Goals as goal

pub returns-in-Ok-clause-told : goal.returns-in-Ok-clause-told
returns-in-Ok-clause-told g c =
    let nodes = c.args.nodes.now.items in
    let i = c.from.result in
    let node = c.index_mut.result.now in
    let was : slice_get nodes i ≡ Some node = slice_get-get_or nodes i node (omega arith) ∙ ap (λ (n : Node). Some n) (sym c.index_mut.ensures.value) in
    one_told nodes c.args.number i (inbound.Local c.args.command) node c.tell.new.node was (omega arith) c.in-Ok.ensures.told

pub returns-in-Err-clause-same : goal.returns-in-Err-clause-same
returns-in-Err-clause-same g c =
    let nodes = c.args.nodes.now.items in
    let i = c.from.result in
    let node = c.index_mut.result.now in
    let was : slice_get nodes i ≡ Some node = slice_get-get_or nodes i node (omega arith) ∙ ap (λ (n : Node). Some n) (sym c.index_mut.ensures.value) in
    one_same nodes i node c.tell.new.node was c.in-Err.ensures.same
