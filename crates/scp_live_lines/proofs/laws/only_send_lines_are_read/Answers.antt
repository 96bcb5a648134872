use Rattle.scp_live_lines.proofs.Others.{are_others}
use Rattle.scp_live_lines.proofs.laws.only_send_lines_are_read.Goals as goal

pub returns : goal.returns
returns c = are_others
