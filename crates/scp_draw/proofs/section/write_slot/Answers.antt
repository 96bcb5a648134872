use Rattle.std.proofs.Common.{append_assoc}
use Rattle.scp_draw.proofs.section.write_slot.Goals as goal

pub returns-clause-added : goal.returns-clause-added
returns-clause-added c = simp (c.in_ok-write.ensures.bytes, append_assoc)
