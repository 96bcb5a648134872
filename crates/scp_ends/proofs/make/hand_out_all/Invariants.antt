use Rattle.std.proofs.Common.{◌≡◌, [], length}
use Rattle.crossbeam_channel.specs.Claims.{view, IsSeatAt}
use Rattle.crossbeam_channel.specs.Ends.{sends_on, ruled_capacity}
use Rattle.scp_ends.specs.Order.{receiver}
use Rattle.scp_ends.specs.inside.Passes.{line_of}
use Rattle.scp_ends.specs.Ends.{AreFresh}
use Rattle.scp_ends.proofs.make.hand_out_all.Given as goal

abbrev pub invariant-loop-number : goal.invariant-loop-number
invariant-loop-number g l = IsSeatAt (sends_on l.sender) l.pass × (view l.pass ≡ receiver (ruled_capacity (sends_on l.sender)) l.number []) × (length l.ends.items ≡ l.number) × AreFresh (line_of l.pass) l.ends.items
