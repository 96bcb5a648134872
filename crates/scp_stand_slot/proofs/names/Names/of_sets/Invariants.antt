use Rattle.std.proofs.Common.{[], take}
use Rattle.scp_stand_slot.specs.Names.{AreNamesOf}
use Rattle.scp_stand_slot.proofs.names.Names.of_sets.Given as goal

-- of the sets so far
abbrev pub invariant-loop-set : goal.invariant-loop-set
invariant-loop-set l = AreNamesOf (take l.set-index l.sets) [] l.names
