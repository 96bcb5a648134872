use Rattle.scp_pending.proofs.Ending.{all_exits}
use Rattle.scp_pending.proofs.laws.each_connection_ends_by_its_cause.Goals as goal

pub returns : goal.returns
returns c = record { exits = all_exits }
