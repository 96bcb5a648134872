use Rattle.scp_wire.proofs.Lines.{order_is_of_the_peer}
use Rattle.scp_wire.proofs.Shapes.{fronts_are_in_order, one_more_is_of_link}
use Rattle.scp_wire.proofs.laws.a_beginning_keeps_the_shape.Goals as goal

pub returns-clause-front : goal.returns-clause-front
returns-clause-front c = fronts_are_in_order

pub returns-clause-peer : goal.returns-clause-peer
returns-clause-peer c = order_is_of_the_peer

pub returns-clause-more : goal.returns-clause-more
returns-clause-more c = one_more_is_of_link
