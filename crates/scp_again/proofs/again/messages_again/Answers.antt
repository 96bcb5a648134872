use Rattle.std.proofs.Common.{◌≡◌, ◌++◌, ℕ, subst, arith}
use Rattle.scp_core.specs.scp_types.specs.declared.limits.TheConstants.{WINDOW}
use Rattle.scp_again.specs.Again.{decided_again, slots_again}
use Rattle.scp_again.proofs.again.messages_again.Goals as goal

pub returns-clause-exact : goal.returns-clause-exact
returns-clause-exact g c =
    let v = c.args.ledger.now in
    let all : c.loop-ahead.ahead ≡ WINDOW = omega arith in
    subst (λ (k : ℕ). c.loop-ahead.out.items ≡ decided_again v.decisions ++ slots_again v c.args.link k) all c.loop-ahead.invariant
