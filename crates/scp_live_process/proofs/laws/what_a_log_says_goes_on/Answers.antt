use Rattle.scp_live_process.proofs.Same.{goes_on}
use Rattle.scp_live_process.proofs.laws.what_a_log_says_goes_on.Goals as goal

pub returns : goal.returns
returns c = goes_on c.further_events_go_on.ensures c.a_line_says_one_thing.ensures c.each_node_holds_its_ledger.ensures.ledger
