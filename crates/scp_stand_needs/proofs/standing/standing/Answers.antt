use Rattle.std.proofs.Common.{IfOk, subst}
use Rattle.scp_ballot_rules.specs.scp_vote.specs.declared.claim.StatementKind.{StatementKind}
use Rattle.scp_ballot_rules.specs.scp_vote.specs.Seen.{seen}
use Rattle.scp_stand_needs.specs.Needs.{AreStanding}
use Rattle.scp_stand_needs.proofs.standing.standing.Goals as goal

pub returns : goal.returns
returns c = subst (λ (k : StatementKind). IfOk c.standing_in.result (λ nodes. AreStanding (seen k c.args.board.now) c.args.support c.args.claim.now nodes.items)) c.kind.ensures c.standing_in.ensures
