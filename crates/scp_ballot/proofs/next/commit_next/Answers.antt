use Rattle.std.proofs.Common.{inl, inr, sym, subst}
use Rattle.std.proofs.Common.{List}
use Rattle.scp_ballot_rules.specs.scp_types.specs.declared.ballot.Ballot.{Ballot}
use Rattle.scp_ballot_rules.specs.Told.{ballots_on}
use Rattle.scp_ballot_rules.specs.Finding.{AreBoundaries}
use Rattle.scp_ballot.proofs.next.commit_next.Goals as goal

pub returns-in-Some-clause-step : goal.returns-in-Some-clause-step
returns-in-Some-clause-step c = let h = rw c.in-Some.is at c.in_ok-next.ensures.step in inl h

pub returns-in-Some-2-clause-step : goal.returns-in-Some-2-clause-step
returns-in-Some-2-clause-step c = let h = rw c.in-Some-2.is at c.in_ok-next-in-None.ensures.step in inr h

pub accept_commit-requires : goal.accept_commit-requires
accept_commit-requires c = record { all = subst (λ (xs : List Ballot). AreBoundaries (ballots_on c.args.board.now) xs) (sym c.as_slice-list.ensures.value) c.in_ok-ends.ensures.all }
