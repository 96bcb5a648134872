use Rattle.std.proofs.Common.{◌∙◌, ◌+◌, ◌++◌, List, ap}
use Rattle.scp_script_check.specs.declared.warning.Warning.{Warning}
use Rattle.scp_script_check.specs.Warnings.{unopened_from}
use Rattle.scp_script_check.proofs.Telling.{links_more}
use Rattle.scp_script_check.proofs.warned.add_unopened.Goals as goal

pub loop-index-preserved : goal.loop-index-preserved
loop-index-preserved c =
    let f = unopened_from c.args.whole.now.turns.now c.args.whole.now.commands.now c.args.from in
    let i = c.loop-index.index in
    c.in_ok-add.ensures
    ∙ ap (λ (l : List Warning). c.loop-index.out.items ++ l) c.missing_link.ensures
    ∙ ap (λ (l : List Warning). l ++ f (i + 1)) c.loop-index.invariant
    ∙ links_more f c.args.out.now.items i
