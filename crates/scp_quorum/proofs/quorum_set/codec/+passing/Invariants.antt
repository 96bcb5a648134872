use Rattle.std.proofs.Common.{◌≡◌, ◌-◌, ◌+◌, ◌*◌}
use Rattle.scp_xdr.specs.Passing.{pass_items}
use Rattle.scp_quorum.proofs.Inner.{pass_set_at}
use Rattle.scp_quorum.proofs.quorum_set.codec.+passing.Given as goal

abbrev pub decreases-pass_inner : goal.decreases-pass_inner
decreases-pass_inner l = 2 * l.levels

abbrev pub decreases-pass_set : goal.decreases-pass_set
decreases-pass_set l = 2 * l.levels + 1

-- what is still passed over leads where all of them lead
abbrev pub invariant-pass_inner-loop : goal.invariant-pass_inner-loop
invariant-pass_inner-loop l = pass_items (pass_set_at (l.levels - 1)) (l.count - l.counter) l.reader ≡ pass_items (pass_set_at (l.levels - 1)) l.count l.initial.reader
