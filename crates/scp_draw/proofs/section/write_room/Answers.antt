use Rattle.std.proofs.Common.{append_assoc}
use Rattle.scp_draw.proofs.section.write_room.Goals as goal

pub returns-clause-added : goal.returns-clause-added
returns-clause-added c = simp (c.in_ok-write-2.ensures.bytes, c.in_ok-write.ensures.bytes, c.room-width.ensures, append_assoc)
