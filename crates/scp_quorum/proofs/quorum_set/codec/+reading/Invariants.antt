use Rattle.std.proofs.Common.{◌≡◌, ◌-◌, ◌+◌, ◌*◌}
use Rattle.std.specs.Prelude.{map}
use Rattle.scp_xdr.specs.Reading.{read_items}
use Rattle.scp_xdr.proofs.Loops.{with_front}
use Rattle.scp_quorum.specs.QuorumKind.{set_value}
use Rattle.scp_quorum.proofs.Inner.{set_at}
use Rattle.scp_quorum.proofs.quorum_set.codec.+reading.Given as goal

abbrev pub decreases-read_inner : goal.decreases-read_inner
decreases-read_inner l = 2 * l.levels

abbrev pub decreases-read_set : goal.decreases-read_set
decreases-read_set l = 2 * l.levels + 1

-- the sets so far, and what is still read, are all of them
abbrev pub invariant-read_inner-loop : goal.invariant-read_inner-loop
invariant-read_inner-loop l =
    with_front (map set_value l.sets.items) (read_items (set_at (l.levels - 1)) (l.count - l.counter) l.reader) ≡ read_items (set_at (l.levels - 1)) l.count l.initial.reader
