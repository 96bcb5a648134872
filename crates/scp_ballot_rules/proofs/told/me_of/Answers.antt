use Rattle.std.proofs.Common.{sym}
use Rattle.scp_vote.specs.declared.claim.StatementKind.TheVariants.{Balloting}
use Rattle.scp_ballot_rules.proofs.told.me_of.Goals as goal

pub returns-clause-me : goal.returns-clause-me
returns-clause-me c = sym (c.me.ensures.me Balloting)

pub returns-clause-own : goal.returns-clause-own
returns-clause-own c = c.me.ensures.own Balloting
