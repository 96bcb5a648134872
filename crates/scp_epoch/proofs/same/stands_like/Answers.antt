use Rattle.std.proofs.Common.{◌≡◌, ℕ, refl, sym, ◌∙◌, subst}
use Rattle.scp_again.specs.scp_theorem.proofs.Basics.{true_isnt}
use Rattle.scp_again.proofs.Current.{true_false}
use Rattle.scp_epoch.specs.Saying.{SaysTheSame}
use Rattle.scp_epoch.proofs.same.stands_like.Goals as goal

pub returns-then-not-says_the_same : goal.returns-then-not-says_the_same
returns-then-not-says_the_same g c = (
  λ e. absurd (true_isnt (sym e)),
  λ h. true_false c.says_the_same.result (c.says_the_same.ensures.1 (subst (λ (n : ℕ). SaysTheSame n c.args.old.now.ledger c.args.new.now.ledger) (sym c.requires.next) h.same)) c.if-not-says_the_same.true,
)

pub returns : goal.returns
returns g c = (
  λ e. record { same = subst (λ (n : ℕ). SaysTheSame n c.args.old.now.ledger c.args.new.now.ledger) c.requires.next (c.says_the_same.ensures.0 c.if-not-says_the_same.false); quiet = c.is_quiet.ensures.0 e },
  λ h. c.is_quiet.ensures.1 h.quiet,
)
