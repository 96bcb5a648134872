use Rattle.scp_live_lines.proofs.Named.{told_by_its_name}
use Rattle.scp_live_lines.proofs.laws.a_peer_is_told_by_its_name.Goals as goal

pub returns : goal.returns
returns c = told_by_its_name
