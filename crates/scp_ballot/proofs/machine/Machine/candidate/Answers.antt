use Rattle.std.proofs.Common.{◌≡◌, inl, inr}
use Rattle.scp_ballot_rules.specs.declared.state.Phase.TheVariants.{Prepare}
use Rattle.scp_ballot_rules.specs.inside.Rules.{Composes, IsChange}
use Rattle.scp_ballot_rules.specs.Told.{ballots_on}
use Rattle.scp_ballot.proofs.Heard.{all_change}
use Rattle.scp_ballot.proofs.machine.Machine.candidate.Goals as goal

pub advance-requires : goal.advance-requires
advance-requires c = record {
  rest = c.requires.rest;
  first = all_change (λ next. (c.args.self.now.state.phase ≡ Prepare) × Composes c.args.value c.args.self.now.state next) (λ next. IsChange (ballots_on c.args.self.now.board) c.args.self.now.state next)
      c.in_ok-first.first (λ next h. inr (inl (h.0, c.args.value, h.1))) (rw c.in_ok-value.ensures.same at c.in_ok-first.ensures.composes);
}

pub returns-clause-takes : goal.returns-clause-takes
returns-clause-takes c = record { first = c.in_ok-first.first; some = rw c.in_ok-value.ensures.same at c.in_ok-first.ensures.composes; none = c.in_ok-first.ensures.none; gives = c.in_ok-given.ensures.gives }
