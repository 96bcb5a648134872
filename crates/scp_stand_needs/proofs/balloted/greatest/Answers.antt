use Rattle.std.proofs.Common.{sym, arith}
use Rattle.scp_stand_needs.proofs.Counters.{greatest_at, greatest_all}
use Rattle.scp_stand_needs.proofs.balloted.greatest.Goals as goal

pub loop-ballot-preserved : goal.loop-ballot-preserved
loop-ballot-preserved c = greatest_at c.args.ballots.now c.loop-ballot.counters c.raise.new.counters c.loop-ballot.ballot-index c.ballot-item.result c.ballot-item.result (omega arith) (sym c.ballot-item.is) c.in_ok-raise.ensures.raised c.loop-ballot.invariant

pub returns-clause-greatest : goal.returns-clause-greatest
returns-clause-greatest c = greatest_all c.args.ballots.now c.loop-ballot.counters c.loop-ballot.ballot-index (omega arith) c.loop-ballot.invariant
