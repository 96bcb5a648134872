use Rattle.std.proofs.Common.{◌∙◌, sym}
use Rattle.scp_fetch.proofs.Ring.{find_turned}
use Rattle.scp_fetch.proofs.Storing.{map_copied, copied_under}
use Rattle.scp_fetch.proofs.store.find.Goals as goal

pub returns-clause-found : goal.returns-clause-found
returns-clause-found c = λ first. map_copied _ _ c.get.ensures.value ∙ sym (find_turned c.args.hash.now first _ c.requires c.len-distinct.ensures.unique)

pub returns-clause-its_hash : goal.returns-clause-its_hash
returns-clause-its_hash c = copied_under c.args.hash.now.0 _ _ c.requires c.get.ensures.value
