use Rattle.std.proofs.Common.{sym, ap, subst}
use Rattle.scp_gather.specs.scp_wire.specs.declared.link.Inbound.{Inbound}
use Rattle.scp_gather.specs.scp_ends.specs.Ends.{Line, Receiver}
use Rattle.scp_threaded_node.specs.Seats.{AreLanes}
use Rattle.scp_threaded_node.proofs.make.make_parts.Goals as goal

pub returns-clause-lanes : goal.returns-clause-lanes
returns-clause-lanes g c = subst (λ (line : Line Inbound). AreLanes c.args.me c.args.peers.now line c.args.capacities.link c.in_ok-lanes.lanes.items) (sym (ap (λ (r : Receiver Inbound). r.line) c.in_ok-pend.ensures.inbox)) c.in_ok-lanes.ensures.lanes.0
