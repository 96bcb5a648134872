use Rattle.std.proofs.Common.{sym}
use Rattle.scp_text.proofs.Numbers.{no_text}
use Rattle.scp_text.proofs.pieces.number.Goals as goal

pub returns-in_default : goal.returns-in_default
returns-in_default c = sym (no_text c.args.word.now c.in_default.ensures.cases.0)
