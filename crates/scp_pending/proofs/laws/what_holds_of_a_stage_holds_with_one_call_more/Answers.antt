use Rattle.scp_pending.proofs.Here.{here_from_nothing, here_passes}
use Rattle.scp_pending.proofs.laws.what_holds_of_a_stage_holds_with_one_call_more.Goals as goal

pub returns : goal.returns
returns c = record { nothing = here_from_nothing; more = here_passes }
