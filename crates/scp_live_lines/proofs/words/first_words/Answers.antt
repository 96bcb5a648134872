use Rattle.std.proofs.Common.{◌∙◌, ◌++◌, ap, inl, inr, lit<, arith}
use Rattle.std.proofs.lemmas.Iterator.Splits.{YieldsList-from_str_split}
use Rattle.std.proofs.lemmas.Iterator.Consumers.{YieldsList-at}
use Rattle.scp_live_lines.proofs.FourWords.{all_taken, four_taken}
use Rattle.scp_live_lines.proofs.words.first_words.Goals as goal

pub returns-in-Ok : goal.returns-in-Ok
returns-in-Ok c =
    let road = YieldsList-from_str_split 32 c.args.line.now (lit< tt) c.split.ensures.text c.split.ensures.has_more c.split.ensures.pattern in
    let r = c.in-Ok.ensures.ran in
    inl (all_taken (YieldsList-at r.2 road) r.1 c.extend.new.self.items r.4 (r.3 ∙ ap (λ l. l ++ r.1) c.new-words.ensures))

pub returns-in-Err : goal.returns-in-Err
returns-in-Err c =
    let road = YieldsList-from_str_split 32 c.args.line.now (lit< tt) c.split.ensures.text c.split.ensures.has_more c.split.ensures.pattern in
    let r = c.in-Err.ensures.one_more in
    inr (four_taken (YieldsList-at r.4 road) r.1 c.extend.new.self.items r.2 r.3 r.5 (r.6 ∙ ap (λ l. l ++ r.1) c.new-words.ensures) (omega (arith, c.in-Err.ensures.full)))
