use Rattle.scp_line.proofs.Headlines.{are_nodes_headlined, are_reports_headlined}
use Rattle.scp_line.proofs.laws.what_is_played_keeps_the_headlines.Goals as goal

pub returns : goal.returns
returns c = record {
  played = are_nodes_headlined c.each_node_holds_its_ledger.ensures.ledger c.each_node_holds_its_headline.ensures.headline;
  reported = are_reports_headlined;
}
