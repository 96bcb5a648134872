use Rattle.scp_live_lines.proofs.Back.{come_back}
use Rattle.scp_live_lines.proofs.laws.sent_lines_come_back.Goals as goal

pub returns : goal.returns
returns c = come_back
