use Rattle.scp_gather.proofs.Counting.{holds_at_most}
use Rattle.scp_gather.proofs.laws.a_node_holds_so_much.Goals as goal

pub returns : goal.returns
returns c = holds_at_most c.reading_of_is_what_is_spelt.ensures
