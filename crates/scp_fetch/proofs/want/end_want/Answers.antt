use Rattle.std.proofs.Common.{◌∙◌, ap}
use Rattle.scp_fetch.specs.inside.Table.{wants_in}
use Rattle.scp_fetch.proofs.Tables.{stands_of}
use Rattle.scp_fetch.proofs.want.end_want.Goals as goal

pub returns-clause-ended : goal.returns-clause-ended
returns-clause-ended c = ap wants_in c.shift_remove.ensures.entries ∙ (stands_of c.args.hash.now c.args.wants.now.entries c.requires.under c.len-distinct.ensures.unique).removed

pub returns-clause-under : goal.returns-clause-under
returns-clause-under c = rw c.shift_remove.ensures.entries (stands_of c.args.hash.now c.args.wants.now.entries c.requires.under c.len-distinct.ensures.unique).removed_under
