use Rattle.scp_live_lines.proofs.Back.{read_behind}
use Rattle.scp_live_lines.proofs.laws.lines_are_read_in_order.Goals as goal

pub returns : goal.returns
returns c = read_behind
