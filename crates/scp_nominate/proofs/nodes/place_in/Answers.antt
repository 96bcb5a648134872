use Rattle.scp_nominate.proofs.Turning.{node_found, node_within}
use Rattle.scp_nominate.proofs.Inserting.{node_gap}
use Rattle.scp_nominate.proofs.nodes.place_in.Goals as goal

pub returns-clause-found : goal.returns-clause-found
returns-clause-found c = node_found c.args.nodes.now c.args.node.now c.binary_search.result c.binary_search.ensures.bound c.binary_search.ensures.ok

pub returns-clause-within : goal.returns-clause-within
returns-clause-within c = node_within _ c.binary_search.result c.binary_search.ensures.bound

pub returns-clause-gap : goal.returns-clause-gap
returns-clause-gap c = node_gap c.args.nodes.now c.args.node.now c.binary_search.result c.requires.ascending c.binary_search.ensures.position
