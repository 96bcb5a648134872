use Rattle.scp_pending.proofs.Independence.{what_may_pass_passes, passes_in_place, lanes_are_led}
use Rattle.scp_pending.proofs.laws.no_lane_delays_another.Goals as goal

pub returns : goal.returns
returns c = record { passes = what_may_pass_passes; place = passes_in_place; led = lanes_are_led }
