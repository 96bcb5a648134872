use Rattle.scp_account.proofs.Run.{run_is_kept}
use Rattle.scp_account.proofs.laws.a_run_is_kept_as_it_happened.Goals as goal

pub returns : goal.returns
returns c = run_is_kept c.what_is_kept_is_what_happened.ensures.step
