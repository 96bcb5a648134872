use Rattle.std.proofs.Common.{◌≡◌, ◌+◌, Bool, true, false, refl, sym, ◌∙◌, nat_eq}
use Rattle.std.proofs.lemmas.Bool.{eqb-true, eq-eqb}
use Rattle.scp_again.specs.scp_theorem.proofs.Basics.{true_isnt, and_first, and_second}
use Rattle.scp_again.proofs.Current.{true_false}
use Rattle.scp_epoch.proofs.Equal.{both_true}
use Rattle.scp_epoch.proofs.same.says_the_same.Goals as goal

pub returns-then-not-same_lowest : goal.returns-then-not-same_lowest
returns-then-not-same_lowest g c =
    let first = c.args.before + 1 in
    let one = nat_eq c.args.old.now.ledger.lowest first in
    let other = nat_eq c.args.new.now.ledger.lowest first in (
      λ e. absurd (true_isnt (sym e)),
      λ h. true_false c.same_lowest.result (c.same_lowest.ensures ∙ both_true one other (eq-eqb c.args.old.now.ledger.lowest first h.lowest) (eq-eqb c.args.new.now.ledger.lowest first h.lowest_too)) c.if-not-same_lowest.true,
    )

pub returns : goal.returns
returns g c =
    let first = c.args.before + 1 in
    let one = nat_eq c.args.old.now.ledger.lowest first in
    let other = nat_eq c.args.new.now.ledger.lowest first in
    let both = sym c.same_lowest.ensures ∙ c.if-not-same_lowest.false in (
      λ e. record { lowest = eqb-true c.args.old.now.ledger.lowest first (and_first one other both); lowest_too = eqb-true c.args.new.now.ledger.lowest first (and_second one other both); same = c.same_open.ensures.0 e },
      λ h. c.same_open.ensures.1 h.same,
    )
