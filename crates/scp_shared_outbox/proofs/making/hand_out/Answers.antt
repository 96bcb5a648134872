use Rattle.std.proofs.Common.{ap}
use Rattle.scp_shared_outbox.proofs.Moves.{makes}
use Rattle.scp_shared_outbox.proofs.making.hand_out.Goals as goal

pub another-mine-requires-clause-rule : goal.another-mine-requires-clause-rule
another-mine-requires-clause-rule c = makes _ _ (ap (λ v. v.takes) c.requires.1) (ap (λ v. v.puts) c.requires.1)
