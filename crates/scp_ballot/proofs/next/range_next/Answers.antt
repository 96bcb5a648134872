use Rattle.std.proofs.Common.{inl, inr, sym, subst}
use Rattle.std.proofs.Common.{List}
use Rattle.scp_ballot_rules.specs.scp_types.specs.declared.ballot.Ballot.{Ballot}
use Rattle.scp_ballot_rules.specs.Told.{ballots_on}
use Rattle.scp_ballot_rules.specs.Finding.{AreBoundaries}
use Rattle.scp_ballot.proofs.next.range_next.Goals as goal

pub returns-in-Some-clause-step : goal.returns-in-Some-clause-step
returns-in-Some-clause-step c = let h = rw c.in-Some.is at c.in_ok-next.ensures.step in inl h

pub returns-in-Some-2-clause-step : goal.returns-in-Some-2-clause-step
returns-in-Some-2-clause-step c = let h = rw c.in-Some-2.is at c.in_ok-next-in-None.ensures.step in inr h

pub accept_higher-requires-clause-all : goal.accept_higher-requires-clause-all
accept_higher-requires-clause-all c = subst (λ (xs : List Ballot). AreBoundaries (ballots_on c.args.board.now) xs) (sym c.as_slice-list.ensures.value) c.in_ok-ends.ensures.all

pub confirm_commit-requires : goal.confirm_commit-requires
confirm_commit-requires c = record { all = subst (λ (xs : List Ballot). AreBoundaries (ballots_on c.args.board.now) xs) (sym c.as_slice-list.ensures.value) c.in_ok-ends.ensures.all }
