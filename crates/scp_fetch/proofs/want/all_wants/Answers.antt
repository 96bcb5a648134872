use Rattle.std.proofs.lemmas.Iterator.Consumers.{map_from_collect, YieldsList-from_rest}
use Rattle.scp_fetch.specs.inside.Table.{wants_in}
use Rattle.scp_fetch.proofs.want.all_wants.Goals as goal

pub returns : goal.returns
returns c = map_from_collect _ c.collect.ensures.ran (YieldsList-from_rest (wants_in c.args.wants.now.entries) c.values.ensures.rest)
