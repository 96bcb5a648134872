use Rattle.scp_batches.proofs.Splitting.{split_one_way}
use Rattle.scp_batches.proofs.laws.an_input_is_split_in_one_way.Goals as goal

pub returns : goal.returns
returns c = split_one_way
