use Rattle.std.proofs.Common.{sym, ◌∙◌}
use Rattle.scp_text.proofs.Numbers.{word_utf8}
use Rattle.scp_text.proofs.pieces.word.Goals as goal

pub returns-in-Err : goal.returns-in-Err
returns-in-Err c = absurd (c.in-Err.ensures.cases.0 (word_utf8 c.args.bytes.now (sym c.is_word.ensures ∙ c.if-not-is_word.false)))
