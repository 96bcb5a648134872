use Rattle.std.proofs.Common.{sym, ap, subst}
use Rattle.scp_shared_outbox.specs.declared.turn.Part.{Part}
use Rattle.scp_shared_outbox.specs.Turns.{Stands}
use Rattle.scp_shared_outbox.proofs.Moves.{begins, leaves}
use Rattle.scp_shared_outbox.proofs.making.placed.Goals as goal

pub ruled-requires-clause-rule : goal.ruled-requires-clause-rule
ruled-requires-clause-rule c = begins

pub try_push_as-requires-clause-rule : goal.try_push_as-requires-clause-rule
try_push_as-requires-clause-rule c =
    let first = c.in_ok-place.ensures.3 in
    leaves _ _ _ _ (ap (λ v. v.holds) first) (subst (λ (v : Part). Stands v.turns c.args.outbox) (sym first) c.requires)
