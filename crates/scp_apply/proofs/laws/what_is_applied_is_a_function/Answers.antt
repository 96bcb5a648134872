use Rattle.scp_apply.proofs.Alike.{applying_is_a_function}
use Rattle.scp_apply.proofs.laws.what_is_applied_is_a_function.Goals as goal

pub returns : goal.returns
returns c = applying_is_a_function
