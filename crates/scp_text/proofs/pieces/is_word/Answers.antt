use Rattle.std.proofs.Common.{◌∙◌, arith}
use Rattle.scp_text.proofs.Numbers.{word_some}
use Rattle.scp_text.proofs.pieces.is_word.Goals as goal

pub returns-in-len1-up : goal.returns-in-len1-up
returns-in-len1-up c = c.are_plain.ensures ∙ word_some c.args.bytes.now (omega (arith, c.in-len1-up.len_at_least))
