use Rattle.std.proofs.Common.{◌≡◌}
use Rattle.std.specs.Prelude.{map}
use Rattle.scp_threaded_node.specs.scp_shared_outbox.specs.Table.{desk_of}
use Rattle.scp_threaded_script.proofs.outboxes.stop_to.Given as goal

abbrev pub invariant-loop-marker : goal.invariant-loop-marker
invariant-loop-marker g l = map desk_of l.marker-items ≡ map desk_of l.fn.row.items
