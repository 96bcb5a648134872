use Rattle.std.proofs.Common.{ap, ◌∙◌}
use Rattle.scp_shared_outbox.proofs.Moves.{hears_marks, told_rest}
use Rattle.scp_shared_outbox.proofs.taking.hear_marks.Goals as goal

pub absorb-requires-clause-rule : goal.absorb-requires-clause-rule
absorb-requires-clause-rule c = hears_marks _ _ _ _ c.into_pass.ensures.2

pub learn_as-requires-clause-rule : goal.learn_as-requires-clause-rule
learn_as-requires-clause-rule c = told_rest _ _ (ap (λ v. v.holds) c.absorb.ensures.rule ∙ c.requires.held.1) (ap (λ v. v.marks) c.absorb.ensures.rule) (ap (λ v. v.takes) c.absorb.ensures.rule ∙ c.requires.held.0)
