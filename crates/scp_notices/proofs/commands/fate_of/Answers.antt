use Rattle.std.proofs.Common.{◌≡◌, sym, subst, ℕ}
use Rattle.std.specs.Prelude.{Some}
use Rattle.scp_notices.specs.Ignoring.{teller}
use Rattle.scp_notices.specs.inside.Queues.{TakesAt}
use Rattle.scp_notices.proofs.Queues.{one_taken, teller_small}
use Rattle.scp_notices.proofs.commands.fate_of.Goals as goal

pub returns-in-Some : goal.returns-in-Some
returns-in-Some c =
    let queues = c.args.queues.now.items in
    let new = c.next_at.new.queues.items in
    let command = c.args.command.now in
    let number = c.in-Some.number in
    let e : teller command ≡ Some number = sym c.in-Some.ensures in
    let takes = subst (λ (k : ℕ). TakesAt queues k c.next_at.result new) c.from.ensures c.next_at.ensures in
    λ told before are. one_taken queues new command number c.next_at.result told before e (teller_small command number c.requires.names e).0 takes are
