use Rattle.std.proofs.lemmas.Result.{err_from_is_err_and}
use Rattle.scp_line.proofs.Scripts.{told_of_all}
use Rattle.scp_line.proofs.playing.play.Goals as goal

pub returns-in_err-text-clause-full : goal.returns-in_err-text-clause-full
returns-in_err-text-clause-full g c =
    let p = err_from_is_err_and c.from_residual-in_err-text.result c.from_residual-in_err-text.ensures.1 in
    rw (p.1, p.2) (λ is. told_of_all (g.R.ScriptIn.left c.args.reader.now) c.in_ok-script.script.items c.as_slice.result.now c.in_ok-script.ensures.whole c.as_slice.ensures.value c.in_ok-script.ensures.limit (c.in_err-text.ensures.full is))
