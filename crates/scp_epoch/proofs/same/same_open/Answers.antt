use Rattle.std.proofs.Common.{◌≡◌, ◌+◌, ℕ, refl, sym, ◌∙◌, subst, arith}
use Rattle.scp_again.specs.scp_types.specs.declared.limits.TheConstants.{WINDOW}
use Rattle.scp_again.specs.scp_theorem.proofs.Basics.{true_isnt}
use Rattle.scp_epoch.specs.Saying.{SaySame}
use Rattle.scp_epoch.proofs.Equal.{none_said, one_more, one_differs}
use Rattle.scp_epoch.proofs.same.same_open.Goals as goal

pub loop-ahead-init : goal.loop-ahead-init
loop-ahead-init g c = none_said (c.args.before + 1) c.args.old.now.ledger c.args.new.now.ledger

pub returns-then-not-same_at : goal.returns-then-not-same_at
returns-then-not-same_at g c = (
  λ e. absurd (true_isnt (sym e)),
  λ h. absurd (one_differs c.loop-ahead.ahead WINDOW (c.args.before + 1) c.args.old.now.ledger c.args.new.now.ledger (omega arith) (sym c.same_at.ensures ∙ c.if-not-same_at.true) h),
)

pub loop-ahead-preserved : goal.loop-ahead-preserved
loop-ahead-preserved g c = one_more c.loop-ahead.ahead (c.args.before + 1) c.args.old.now.ledger c.args.new.now.ledger c.loop-ahead.invariant (sym c.same_at.ensures ∙ c.if-not-same_at.false)

pub returns : goal.returns
returns g c =
    let all : c.loop-ahead.ahead ≡ WINDOW = omega arith in
    (λ e. subst (λ (k : ℕ). SaySame k (c.args.before + 1) c.args.old.now.ledger c.args.new.now.ledger) all c.loop-ahead.invariant, λ h. refl)
