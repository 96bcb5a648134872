use Rattle.std.proofs.Common.{◌≡◌, ◌∙◌, Some, ap, sym, arith}
use Rattle.std.specs.Prelude.{slice_get}
use Rattle.std.proofs.lemmas.Option.{slice_get-get_or}
use Rattle.scp_threaded_node.specs.scp_shared_outbox.specs.Ends.{MarkerView}
use Rattle.scp_threaded_node.specs.scp_shared_outbox.specs.Table.{desk_of}
use Rattle.scp_threaded_node.proofs.Given.{map_set}
use Rattle.scp_threaded_script.proofs.outboxes.leave_in.Goals as goal

pub returns-clause-same : goal.returns-clause-same
returns-clause-same g c =
    let xs = c.args.row.now.items in
    let m = c.index_mut.result.now in
    let was : slice_get xs c.args.place ≡ Some m = slice_get-get_or xs c.args.place m (omega (arith, c.requires.place)) ∙ ap (λ (z : MarkerView). Some z) (sym c.index_mut.ensures.value) in
    map_set desk_of xs c.args.place m c.leave.new.marker was c.leave.ensures.same
