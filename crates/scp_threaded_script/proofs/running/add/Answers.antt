use Rattle.std.proofs.Common.{◌∙◌, sym}
use Rattle.scp_threaded_script.proofs.running.add.Goals as goal

pub returns-in-Ok-keep-clause-told : goal.returns-in-Ok-keep-clause-told
returns-in-Ok-keep-clause-told c = λ whole.
    let same = c.keep.ensures.same in
    let kept = c.in-Ok-keep.ensures.kept in
    ((sym same.2 ∙ whole.0, sym same.1 ∙ whole.1, sym same.0 ∙ whole.2), c.in-Ok.over, c.in-Ok.is, kept.0, kept.1, kept.2)
