use Rattle.std.proofs.Common.{ℕ, Option, IfSome, rules}
use Rattle.scp_ballot_rules.specs.scp_types.specs.declared.names.NodeId.{NodeId}
use Rattle.scp_ballot_rules.specs.Told.{ballots_on}
use Rattle.scp_ballot.specs.inside.Ahead.{IsAhead}
use Rattle.scp_ballot.proofs.Aheads.{least_free}
use Rattle.scp_ballot.proofs.raise.raised_counter.Goals as goal

pub least_counter-requires-clause-free : goal.least_counter-requires-clause-free
least_counter-requires-clause-free c =
    let nobody = rw c.in-Some.is at c.highest_above.ensures.highest in
    c.in_ok-are_ahead.ensures.nobody c.in-Some.top nobody

pub returns-in_ok-least-in-Some-clause-least : goal.returns-in_ok-least-in-Some-clause-least
returns-in_ok-least-in-Some-clause-least c =
    least_free (ballots_on c.args.board.now) c.args.n c.in_ok-least-in-Some.least (search rules) c.in_ok-least-in-Some.ensures.least c.in_ok-least-in-Some.ensures.above c.in_ok-least-in-Some.ensures.free
