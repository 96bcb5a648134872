use Rattle.std.proofs.Common.{◌≡◌, ◌∙◌, ◌<◌, Some, length, ap, sym, arith}
use Rattle.std.specs.Prelude.{slice_get}
use Rattle.std.specs.Global.{Vec}
use Rattle.std.proofs.lemmas.Option.{slice_get-get_or}
use Rattle.scp_threaded_node.specs.scp_shared_outbox.specs.Ends.{MarkerView}
use Rattle.scp_threaded_node.proofs.Given.{map_set}
use Rattle.scp_threaded_script.specs.inside.Outlets.{desks_in}
use Rattle.scp_threaded_script.proofs.Doing.{place_within}
use Rattle.scp_threaded_script.proofs.outboxes.leave_at.Goals as goal

pub leave_in-requires : goal.leave_in-requires
leave_in-requires g c =
    let rows = c.args.markers.now.items in
    let row = c.index_mut.result.now in
    let was : slice_get rows c.from.result ≡ Some row = slice_get-get_or rows c.from.result row (omega arith) ∙ ap (λ (z : Vec MarkerView). Some z) (sym c.index_mut.ensures.value) in
    omega (arith, place_within (length rows) (length row.items) c.args.from c.args.to c.requires.two (c.requires.rows.each c.from.result row was))

pub returns-clause-same : goal.returns-clause-same
returns-clause-same g c =
    let rows = c.args.markers.now.items in
    let row = c.index_mut.result.now in
    let was : slice_get rows c.from.result ≡ Some row = slice_get-get_or rows c.from.result row (omega arith) ∙ ap (λ (z : Vec MarkerView). Some z) (sym c.index_mut.ensures.value) in
    map_set desks_in rows c.from.result row c.leave_in.new.row was c.leave_in.ensures.same
