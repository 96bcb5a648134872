use Rattle.std.proofs.Common.{◌≡◌}
use Rattle.std.specs.Prelude.{map}
use Rattle.scp_threaded_script.specs.inside.Outlets.{desks_in}
use Rattle.scp_threaded_script.proofs.outboxes.stop_all.Given as goal

abbrev pub invariant-loop-row : goal.invariant-loop-row
invariant-loop-row g l = map desks_in l.row-items ≡ map desks_in l.fn.markers.items
