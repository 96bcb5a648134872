use Rattle.scp_ballot_rules.specs.inside.Rules.{IsChange}
use Rattle.scp_ballot_rules.specs.Told.{ballots_on}
use Rattle.scp_ballot.specs.inside.Inputs.{Times}
use Rattle.scp_ballot.proofs.Heard.{all_change, times_change}
use Rattle.scp_ballot.proofs.machine.Machine.timer.Goals as goal

pub advance-requires : goal.advance-requires
advance-requires c = record {
  rest = c.requires.rest;
  first = all_change (λ next. Times c.args.self.now.state next) (λ next. IsChange (ballots_on c.args.self.now.board) c.args.self.now.state next)
      c.in_ok-first.first (λ next h. times_change (ballots_on c.args.self.now.board) c.args.self.now.state next h) c.in_ok-first.ensures.raises;
}

pub returns-clause-takes : goal.returns-clause-takes
returns-clause-takes c = record { first = c.in_ok-first.first; some = c.in_ok-first.ensures.raises; none = c.in_ok-first.ensures.none; exact = c.in_ok-first.ensures.exact; gives = c.in_ok-given.ensures.gives }
