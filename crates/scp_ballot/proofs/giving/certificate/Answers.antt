use Rattle.std.proofs.Common.{IfSome, IfNone, List, ℕ, subst}
use Rattle.scp_ballot_rules.specs.scp_quorum.specs.NodeSet.{is_in}
use Rattle.scp_ballot_rules.specs.scp_vote.specs.Board.{Certificate, Confirmed}
use Rattle.scp_ballot_rules.specs.scp_vote.specs.declared.claim.Claim.TheVariants.{Committed}
use Rattle.scp_ballot_rules.specs.Told.{ballots_on}
use Rattle.scp_ballot.proofs.giving.certificate.Goals as goal

pub returns-clause-found : goal.returns-clause-found
returns-clause-found c = subst (λ (v : List ℕ). IfSome c.in_ok-found.found (λ nodes. Certificate (ballots_on c.args.board.now) (Committed c.args.n c.args.n v) (is_in nodes))) c.in_ok-share.ensures.same c.in_ok-found.ensures.found

pub returns-clause-none : goal.returns-clause-none
returns-clause-none c = subst (λ (v : List ℕ). IfNone c.in_ok-found.found (Confirmed (ballots_on c.args.board.now) (Committed c.args.n c.args.n v) → ⊥)) c.in_ok-share.ensures.same c.in_ok-found.ensures.none
