use Rattle.scp_wire.proofs.Lines.{parts_say, lanes_part, peers_say}
use Rattle.scp_wire.proofs.laws.parts_say_what_the_whole_says.Goals as goal

pub returns-clause-parts : goal.returns-clause-parts
returns-clause-parts c = parts_say

pub returns-clause-lanes : goal.returns-clause-lanes
returns-clause-lanes c = lanes_part

pub returns-clause-peers : goal.returns-clause-peers
returns-clause-peers c = peers_say
