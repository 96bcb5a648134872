use Rattle.std.proofs.Common.{length}
use Rattle.scp_draw.proofs.section.+first_slot.Given as goal

abbrev pub decreases-first_slot : goal.decreases-first_slot
decreases-first_slot l = length l.pens.now
