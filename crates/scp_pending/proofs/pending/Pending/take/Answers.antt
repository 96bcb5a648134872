use Rattle.std.proofs.Common.{[], ◌∷◌, ◌++◌, subst}
use Rattle.scp_pending.specs.Rules.{PendingView}
use Rattle.scp_pending.specs.Pends.{Pends}
use Rattle.scp_pending.proofs.Passing.{Pends-take}
use Rattle.scp_pending.proofs.Hearing.{taken_is}
use Rattle.scp_pending.proofs.Keeping.{kept_step}
use Rattle.scp_pending.proofs.pending.Pending.take.Goals as goal

pub returns-in-Ok-clause-passes : goal.returns-in-Ok-clause-passes
returns-in-Ok-clause-passes c = λ me peers taken given p. rw c.in-Ok.ensures.rules (subst (λ (w : PendingView). Pends me peers (taken ++ c.args.item ∷ []) (given ++ []) w) (taken_is c.args.self.now c.self.inside.parking c.self.inside.failed c.args.item c.self.view_is) (Pends-take me peers taken given c.args.self.now c.args.item p))

pub invariant_of-self : goal.invariant_of-self
invariant_of-self c = λ f. rw c.in-Ok.ensures.rules (kept_step c.self.inside.parking.settled c.args.item (c.self.invariant f))
