use Rattle.std.proofs.Common.{sym}
use Rattle.scp_vote.specs.declared.claim.StatementKind.TheVariants.{Nomination}
use Rattle.scp_nominate.proofs.heard.local_of.Goals as goal

pub returns : goal.returns
returns c = sym (c.local.ensures.set Nomination)
