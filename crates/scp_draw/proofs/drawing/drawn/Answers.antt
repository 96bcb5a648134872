use Rattle.scp_draw.proofs.Pages.{cut_stopped, whole_told}
use Rattle.scp_draw.proofs.drawing.drawn.Goals as goal

pub page_of-requires-clause-told : goal.page_of-requires-clause-told
page_of-requires-clause-told c =
    let run = c.in-Ok.run' in
    whole_told c.args.script.now.commands.items c.as_slice.result.now c.args.script.now.lines.items c.as_slice-2.result.now run.network run.tellings.items c.as_slice-in-None.result.now run.stopped c.in-None.is c.as_slice.ensures.value c.as_slice-2.ensures.value c.as_slice-in-None.ensures.value c.in-Ok.ensures.told

pub returns-in-Some-clause-cause : goal.returns-in-Some-clause-cause
returns-in-Some-clause-cause c =
    let run = c.in-Ok.run' in
    cut_stopped c.args.script.now.commands.items c.as_slice.result.now c.as_slice-2.result.now run.network run.tellings.items run.stopped c.in-Some.stopped c.in-Some.is c.as_slice.ensures.value c.in-Ok.ensures.told
