use Rattle.scp_script.proofs.Judged.{no_bad_line}
use Rattle.scp_script.proofs.parsing.parse.Goals as goal

pub returns-in-None-clause-no_bad_line : goal.returns-in-None-clause-no_bad_line
returns-in-None-clause-no_bad_line c = no_bad_line c.args.text.now c.read.result c.read.ensures.script
