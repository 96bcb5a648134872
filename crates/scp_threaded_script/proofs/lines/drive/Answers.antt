use Rattle.scp_threaded_script.proofs.Acting.{all_unchanged}
use Rattle.scp_threaded_script.proofs.Doing.{on_any_err}
use Rattle.scp_threaded_script.proofs.lines.drive.Goals as goal

pub returns-in_err-leave_at-clause-same : goal.returns-in_err-leave_at-clause-same
returns-in_err-leave_at-clause-same g c = on_any_err _ (all_unchanged c.args.nodes.now.items)
