use Rattle.std.proofs.Common.{◌↔◌, IsTrue, IfOk, subst, List, ℕ}
use Rattle.scp_vote.specs.declared.claim.Claim.TheVariants.{Committed}
use Rattle.scp_ballot_rules.specs.Told.{ballots_on}
use Rattle.scp_ballot_rules.specs.inside.Told.{Reached}
use Rattle.scp_ballot_rules.proofs.told.reached_commit.Goals as goal

pub returns-clause-exact : goal.returns-clause-exact
returns-clause-exact c = subst (λ (v : List ℕ). IfOk c.reached.result (λ yes. IsTrue yes ↔ Reached c.args.stage (ballots_on c.args.board.now) (Committed c.args.low c.args.high v))) c.in_ok-share.ensures.same c.reached.ensures.exact
