use Rattle.scp_report.proofs.ConnectionOrder.{are_connections}
use Rattle.scp_report.proofs.settled.connections_are_those_with_entries.Goals as goal

pub returns : goal.returns
returns c = are_connections
