use Rattle.std.proofs.Common.{◌*◌, ◌+◌, ◌≤◌, map, take}
use Rattle.toml.specs.View.{view}
use Rattle.scp_quorum.specs.scp_xdr.specs.Tree.{in_a_row}
use Rattle.scp_quorum.specs.Sane.{levels}
use Rattle.scp_live_config.specs.Sets.{SayInner}
use Rattle.scp_live_config.proofs.sets.+reading.Given as goal

abbrev pub decreases-read_inner : goal.decreases-read_inner
decreases-read_inner l = 2 * l.left

abbrev pub decreases-read_set : goal.decreases-read_set
decreases-read_set l = 2 * l.left + 1

-- the sets so far are those that were said
abbrev pub invariant-read_inner-loop-place : goal.invariant-read_inner-loop-place
invariant-read_inner-loop-place l =
    SayInner l.names (map view (take l.place l.values)) (in_a_row l.sets.items)
    × (levels (in_a_row l.sets.items) ≤ l.left)
