use Rattle.std.proofs.Common.{◌≡◌, ◌+◌, length}
use Rattle.scp_threaded_node.specs.Seats.{Each}
use Rattle.scp_threaded_script.specs.Reported.{AreStood}
use Rattle.scp_threaded_script.proofs.running.all_stood.Given as goal

abbrev pub invariant-loop-index : goal.invariant-loop-index
invariant-loop-index l = record {
  count : length l.all.items ≡ l.index;
  stand : Each (λ i stood. AreStood l.commands (i + 1) stood.items) l.all.items;
}
