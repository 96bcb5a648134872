use Rattle.std.proofs.Common.{ap, ◌∙◌}
use Rattle.scp_shared_outbox.proofs.Moves.{hears, told_puts}
use Rattle.scp_shared_outbox.proofs.taking.hear.Goals as goal

pub absorb-requires-clause-rule : goal.absorb-requires-clause-rule
absorb-requires-clause-rule c = hears _ _ _ _ c.requires.held.0 c.into_pass.ensures.2.0

pub learn_as-requires-clause-rule : goal.learn_as-requires-clause-rule
learn_as-requires-clause-rule c = told_puts _ _ (ap (λ v. v.holds) c.absorb.ensures.rule ∙ c.requires.held.1) (ap (λ v. v.puts) c.absorb.ensures.rule)
