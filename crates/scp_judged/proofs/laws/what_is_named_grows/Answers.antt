use Rattle.scp_judged.proofs.Naming.{named_more}
use Rattle.scp_judged.proofs.laws.what_is_named_grows.Goals as goal

pub returns : goal.returns
returns c = named_more
