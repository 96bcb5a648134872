use Rattle.std.proofs.Common.{◌∙◌, ◌++◌, ap, lit<, arith}
use Rattle.std.proofs.lemmas.Iterator.Splits.{YieldsList-from_str_split}
use Rattle.std.proofs.lemmas.Iterator.Consumers.{YieldsList-at}
use Rattle.scp_script.proofs.Taken.{all_taken, one_more}
use Rattle.scp_script.proofs.words.few_words.Goals as goal

pub returns-in-Ok-clause-words : goal.returns-in-Ok-clause-words
returns-in-Ok-clause-words c =
    let road = YieldsList-from_str_split 32 c.args.line.now (lit< tt) c.split.ensures.text c.split.ensures.has_more c.split.ensures.pattern in
    let r = c.in-Ok.ensures.ran in
    all_taken (YieldsList-at r.2 road) r.1 c.extend.new.self.items r.4 (r.3 ∙ ap (λ l. l ++ r.1) c.new-words.ensures)

pub returns-in-Err-clause-many : goal.returns-in-Err-clause-many
returns-in-Err-clause-many c =
    let road = YieldsList-from_str_split 32 c.args.line.now (lit< tt) c.split.ensures.text c.split.ensures.has_more c.split.ensures.pattern in
    let r = c.in-Err.ensures.one_more in
    let more = one_more (YieldsList-at r.4 road) r.1 c.extend.new.self.items r.2 r.3 r.5 (r.6 ∙ ap (λ l. l ++ r.1) c.new-words.ensures) in
    λ none. omega (arith, more, c.in-Err.ensures.full)
