use Rattle.std.proofs.Common.{ap}
use Rattle.scp_shared_outbox.proofs.Moves.{makes_marker}
use Rattle.scp_shared_outbox.proofs.making.hand_marker.Goals as goal

pub another-mine-requires-clause-rule : goal.another-mine-requires-clause-rule
another-mine-requires-clause-rule c = makes_marker _ _ (ap (λ v. v.marks) c.requires.1)
