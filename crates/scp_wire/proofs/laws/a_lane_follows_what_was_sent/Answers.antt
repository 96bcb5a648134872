use Rattle.scp_wire.proofs.Lanes.{lanes_of_sent, whole_follows}
use Rattle.scp_wire.proofs.laws.a_lane_follows_what_was_sent.Goals as goal

pub returns : goal.returns
returns c = record { lanes = lanes_of_sent; follows = whole_follows }
