use Rattle.std.proofs.Common.{rules}
use Rattle.scp_envelope.proofs.Ballots.{covered_decided}
use Rattle.scp_envelope.proofs.claims.is_covered.Goals as goal

pub returns-then-ballot-top : goal.returns-then-ballot-top
returns-then-ballot-top c = covered_decided c.args.ballot.now c.args.top.now c.eq.result c.if-ballot-top.true (search rules)
