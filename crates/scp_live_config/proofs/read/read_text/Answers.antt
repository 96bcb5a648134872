use Rattle.scp_live_config.proofs.Lifting.{text_wrong}
use Rattle.scp_live_config.proofs.read.read_text.Goals as goal

pub returns-in-Err-clause-refused : goal.returns-in-Err-clause-refused
returns-in-Err-clause-refused c = text_wrong c.args.text.now c.in-Err.error c.text_fault.result c.in-Err.ensures.refused c.in-Err.ensures.span c.text_fault.ensures
