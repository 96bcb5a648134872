use Rattle.std.proofs.Common.{◌∙◌, ◌==◌, sym, ap, is_some}
use Rattle.std.specs.List.{slice_split}
use Rattle.scp_script.proofs.Judged.{not_ascii, skipped_stands, place_by_words, words_parted}
use Rattle.scp_script.proofs.judging.take_line.Goals as goal

pub returns-in_default : goal.returns-in_default
returns-in_default c = λ before knows. not_ascii before c.args.line.now (sym c.ascii.ensures.exact ∙ ap is_some c.in_default.is)

pub returns-then-skipped : goal.returns-then-skipped
returns-then-skipped c = λ before knows. skipped_stands before c.args.line.now c.args.known.now (sym c.ascii.ensures.exact ∙ ap is_some c.in-Some.is) (sym c.if-skipped.ensures) knows

pub returns : goal.returns
returns c = λ before knows. place_by_words before c.args.line.now (slice_split (λ byte. byte == 32) c.in-Some.text.now) c.take_text.result c.take_text.new.known (sym c.ascii.ensures.exact ∙ ap is_some c.in-Some.is) (sym c.if-skipped.ensures) (words_parted c.args.line.now c.in-Some.text.now (sym c.if-skipped.ensures) c.in-Some.ensures.text) (c.take_text.ensures before knows)
