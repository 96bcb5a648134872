use Rattle.std.proofs.Common.{◌≡◌, ◌+◌, ◌<◌, ℕ, refl, sym, ◌∙◌, ap, subst, inl, inr, arith}
use Rattle.std.proofs.lemmas.Bool.{cases_lt}
use Rattle.scp_again.specs.scp_outbox.specs.Handing.{waiting_at}
use Rattle.scp_again.specs.scp_theorem.proofs.Basics.{true_isnt}
use Rattle.scp_epoch.proofs.same.is_quiet.Goals as goal

pub loop-link-init : goal.loop-link-init
loop-link-init g c = λ link below. absurd (omega arith)

pub returns-then-waiting-gt0 : goal.returns-then-waiting-gt0
returns-then-waiting-gt0 g c = (
  λ e. absurd (true_isnt (sym e)),
  λ h. absurd (let none = h c.loop-link.link (omega arith) in omega arith),
)

pub loop-link-preserved : goal.loop-link-preserved
loop-link-preserved g c = λ link below. elim (cases_lt link c.loop-link.link) [
  | inl less ↦ c.loop-link.invariant link less
  | inr more ↦ (let at : c.loop-link.link ≡ link = omega arith in subst (λ (n : ℕ). waiting_at c.args.node.now.outboxes n ≡ 0) at (omega arith))
]

pub returns : goal.returns
returns g c = (λ e link below. c.loop-link.invariant link (omega arith), λ h. refl)
