use Rattle.std.proofs.Common.{map, sym}
use Rattle.std.specs.Option.{option_map}
use Rattle.scp_history.specs.scp_judged.specs.Verdicts.{heard_of}
use Rattle.scp_shown.proofs.Joining.{next_ballot, no_ballot, not_sane}
use Rattle.scp_shown.proofs.joined.is_next.Goals as goal

pub returns-then-not-sane : goal.returns-then-not-sane
returns-then-not-sane c = not_sane (map heard_of c.args.joined.now) c.get.result.now c.args.said.now.envelope c.args.said.now.set.value c.sane.result c.get.ensures c.sane.ensures c.if-not-sane.true

pub returns-in-Nomination : goal.returns-in-Nomination
returns-in-Nomination c = no_ballot (map heard_of c.args.joined.now) c.get.result.now c.args.said.now.envelope c.args.said.now.set.value c.get.ensures (sym c.in-Nomination.ensures)

pub returns-in-Balloting : goal.returns-in-Balloting
returns-in-Balloting c =
    next_ballot (map heard_of c.args.joined.now) c.get.result.now c.args.said.now.envelope c.args.said.now.set.value (option_map (λ one. heard_of one.now) c.last_ballot.result) c.sane.result c.is_newer_than.result c.get.ensures c.sane.ensures c.if-not-sane.false (sym c.in-Balloting.ensures) c.last_ballot.ensures c.is_newer_than.ensures
