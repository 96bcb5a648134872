use Rattle.scp_wire.proofs.Shapes.{readings_grow, readings_grow_by_one}
use Rattle.scp_wire.proofs.laws.what_is_read_grows_with_the_items.Goals as goal

pub returns-clause-more : goal.returns-clause-more
returns-clause-more c = readings_grow

pub returns-clause-one : goal.returns-clause-one
returns-clause-one c = readings_grow_by_one
