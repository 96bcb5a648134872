use Rattle.scp_shared_outbox.proofs.Crossing.{ends_cross}
use Rattle.scp_shared_outbox.proofs.laws.ends_cross_threads.Goals as goal

pub returns : goal.returns
returns c = record { crosses = ends_cross }
