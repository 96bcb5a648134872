use Rattle.std.proofs.lemmas.Result.{IfOk-weaker, IfErr-weaker}
use Rattle.scp_draw.specs.Drawn.{IsPageOf, IsDrawn, IsDrawFault}
use Rattle.scp_draw.specs.inside.Refusing.{IsCauseOf}
use Rattle.scp_draw.proofs.Pages.{lines_fit, page_drawn, cause_told}
use Rattle.scp_draw.proofs.drawing.draw.Goals as goal

pub drawn-requires-clause-count : goal.drawn-requires-clause-count
drawn-requires-clause-count c = lines_fit c.args.text.now c.in-Ok.script.commands.items c.in-Ok.script.lines.items c.in-Ok.ensures.said

pub returns-clause-page : goal.returns-clause-page
returns-clause-page c =
    let text = c.args.text.now in
    let commands = c.in-Ok.script.commands.items in
    let lines = c.in-Ok.script.lines.items in
    IfOk-weaker c.drawn.result (λ page. IsPageOf commands lines page.items) (λ page. IsDrawn text page.items) (λ page is. page_drawn text page.items commands lines c.in-Ok.ensures.said is) c.drawn.ensures.page

pub returns-clause-cause : goal.returns-clause-cause
returns-clause-cause c =
    let text = c.args.text.now in
    let commands = c.in-Ok.script.commands.items in
    IfErr-weaker c.drawn.result (IsCauseOf commands) (IsDrawFault text) (λ fault so. cause_told text commands c.in-Ok.script.lines.items c.in-Ok.ensures.said fault so) c.drawn.ensures.cause
