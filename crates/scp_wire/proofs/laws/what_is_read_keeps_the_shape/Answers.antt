use Rattle.scp_wire.proofs.Shapes.{readings_in_order}
use Rattle.scp_wire.proofs.laws.what_is_read_keeps_the_shape.Goals as goal

pub returns : goal.returns
returns c = readings_in_order
