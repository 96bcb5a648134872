use Rattle.std.proofs.Common.{◌∙◌, sym}
use Rattle.scp_fetch.proofs.Tables.{last_by}
use Rattle.scp_fetch.proofs.want.end_missed.Goals as goal

pub returns-clause-counted : goal.returns-clause-counted
returns-clause-counted c = c.end_want.ensures.ended ∙ sym (last_by c.args.hash.now c.args.wants.now.entries c.requires.under c.len-distinct.ensures.unique c.requires.last)
