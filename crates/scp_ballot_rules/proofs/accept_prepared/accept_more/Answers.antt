use Rattle.scp_ballot_rules.specs.Told.{ballots_on}
use Rattle.scp_ballot_rules.proofs.Exactly.{no_low_rests}
use Rattle.scp_ballot_rules.proofs.accept_prepared.accept_more.Goals as goal

pub returns-in-None-clause-exact : goal.returns-in-None-clause-exact
returns-in-None-clause-exact c = no_low_rests (ballots_on c.args.board.now) c.args.state.now c.in-None.is
