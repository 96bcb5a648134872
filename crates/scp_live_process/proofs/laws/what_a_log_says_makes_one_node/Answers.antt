use Rattle.scp_live_process.proofs.Same.{one_node}
use Rattle.scp_live_process.proofs.laws.what_a_log_says_makes_one_node.Goals as goal

pub returns : goal.returns
returns c = one_node c.the_same_events_give_the_same_episodes.ensures c.a_line_says_one_thing.ensures
