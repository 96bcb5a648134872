use Rattle.std.proofs.Common.{None, refl}
use Rattle.scp_account.proofs.Counting.{counting_so}
use Rattle.scp_account.proofs.laws.what_counts_is_the_newest.Goals as goal

pub returns : goal.returns
returns c = λ journal slot node. counting_so slot node journal None None refl
