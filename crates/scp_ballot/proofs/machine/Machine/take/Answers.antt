use Rattle.scp_ballot.proofs.Heard.{heard_rests}
use Rattle.scp_ballot.proofs.machine.Machine.take.Goals as goal

pub advance-requires-clause-rest : goal.advance-requires-clause-rest
advance-requires-clause-rest c = heard_rests c.args.self.now c.hear.new.self c.args.envelope c.args.delivered.value c.in_ok-hear.ensures.hears c.requires.rest

pub returns-clause-takes : goal.returns-clause-takes
returns-clause-takes c = record { mid = c.hear.new.self; hears = c.in_ok-hear.ensures.hears; gives = c.in_ok-given.ensures.gives }
