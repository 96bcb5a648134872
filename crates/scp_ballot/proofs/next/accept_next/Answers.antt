use Rattle.std.proofs.Common.{sym, subst}
use Rattle.std.proofs.Common.{List}
use Rattle.scp_ballot_rules.specs.scp_types.specs.declared.ballot.Ballot.{Ballot}
use Rattle.scp_ballot_rules.specs.Told.{ballots_on}
use Rattle.scp_ballot_rules.specs.Finding.{AreCandidates}
use Rattle.scp_ballot.proofs.next.accept_next.Goals as goal

pub accept_more-requires : goal.accept_more-requires
accept_more-requires c = record { all = subst (λ (xs : List Ballot). AreCandidates (ballots_on c.args.board.now) xs) (sym c.as_slice-list.ensures.value) c.in_ok-named.ensures.all }
