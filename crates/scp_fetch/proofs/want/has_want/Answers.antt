use Rattle.std.proofs.Common.{◌∙◌}
use Rattle.scp_fetch.proofs.Tables.{stands_of}
use Rattle.scp_fetch.proofs.want.has_want.Goals as goal

pub returns : goal.returns
returns c = c.contains_key.ensures ∙ (stands_of c.args.hash.now c.args.wants.now.entries c.requires.under c.len-distinct.ensures.unique).wanted
