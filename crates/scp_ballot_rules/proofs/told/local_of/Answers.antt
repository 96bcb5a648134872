use Rattle.std.proofs.Common.{sym}
use Rattle.scp_vote.specs.declared.claim.StatementKind.TheVariants.{Balloting}
use Rattle.scp_ballot_rules.proofs.told.local_of.Goals as goal

pub returns : goal.returns
returns c = sym (c.local.ensures.set Balloting)
