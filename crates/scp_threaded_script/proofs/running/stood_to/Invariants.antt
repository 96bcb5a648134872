use Rattle.std.proofs.Common.{◌≡◌}
use Rattle.scp_threaded_script.specs.Reported.{stood_on}
use Rattle.scp_threaded_node.specs.scp_shared_outbox.proofs.Peers.{ArePeers}
use Rattle.scp_threaded_script.proofs.running.stood_to.Given as goal

abbrev pub invariant-loop-index : goal.invariant-loop-index
invariant-loop-index l = ArePeers (λ from stood. stood ≡ stood_on l.commands from l.to) l.to l.index l.stood.items
