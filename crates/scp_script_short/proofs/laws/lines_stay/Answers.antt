use Rattle.scp_script_short.proofs.Clear.{lines_stay}
use Rattle.scp_script_short.proofs.laws.lines_stay.Goals as goal

pub returns : goal.returns
returns c = lines_stay
