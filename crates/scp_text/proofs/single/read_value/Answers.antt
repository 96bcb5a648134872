use Rattle.scp_text.proofs.ValueTexts.{values_found}
use Rattle.scp_text.proofs.single.read_value.Goals as goal

pub returns-clause-short : goal.returns-clause-short
returns-clause-short c = values_found c.read.result c.args.text.now c.read.ensures.found
