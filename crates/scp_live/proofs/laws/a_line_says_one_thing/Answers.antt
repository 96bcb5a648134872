use Rattle.scp_live.proofs.Words.{lines_say_one_thing}
use Rattle.scp_live.proofs.laws.a_line_says_one_thing.Goals as goal

pub returns : goal.returns
returns c = lines_say_one_thing
